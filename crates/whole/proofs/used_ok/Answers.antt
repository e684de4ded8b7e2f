-- The tests of the definition that are left out follow from these.
use mathlib.Core.Path.{◌∙◌}
use native.Mathlib.Omega.{arith}
use Rattle.record.proofs.Laws.Fewer.{used-test}
use Rattle.whole.proofs.used_ok.Goals as goal

pub returns : goal.returns
returns c = used-test _ _ _ _ _ _ c.own.ensures.1 (omega arith) c.requires.1 c.has_head.ensures c.heads_of.ensures c.shared-backing.ensures c.number_of-low.ensures c.number_of-n.ensures ∙ rw (c.own.ensures.0, c.core.ensures, c.least.ensures, c.primary.ensures, c.number.ensures)
