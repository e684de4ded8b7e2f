-- 15 less the leading zeros is the place of the highest bit.
use mathlib.Core.Path.{sym, ap, ◌∙◌}
use native.Mathlib.Omega.{arith}
use Rattle.group.specs.Heads.{highest}
use Rattle.group.proofs.Laws.Heads.{highest-none, leading-highest}
use Rattle.group.proofs.heads.top_head.Goals as goal

pub returns-then-set-eq0 : goal.returns-then-set-eq0
returns-then-set-eq0 c = sym (ap highest c.if-set-eq0.true ∙ highest-none)

pub returns : goal.returns
returns c = leading-highest c.args.set c.ranges.set.fits (omega arith)
