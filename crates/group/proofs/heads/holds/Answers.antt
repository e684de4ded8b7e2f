-- No head above 15 is in a mask of 16 bits.
use mathlib.Core.Path.{sym, ◌∙◌}
use native.Mathlib.Omega.{arith}
use borrow.Author.Tests.{lt-leb}
use Rattle.group.proofs.Laws.Heads.{has-high}
use Rattle.group.proofs.heads.holds.Goals as goal

pub returns-else-h-le-LAST : goal.returns-else-h-le-LAST
returns-else-h-le-LAST c = lt-leb _ _ c.if-h-le-LAST.false ∙ sym (has-high 16 c.args.set c.args.h c.ranges.set.fits (omega arith))
