-- The machine's shifted one is the set of one head.
use mathlib.Core.Path.{ap}
use lib.Bits.{bit_or}
use Rattle.group.specs.Heads.{either}
use Rattle.plan.proofs.Laws.Marks.{one_bit}
use Rattle.learning.proofs.marks.mark_if.Goals as goal

pub returns-then-asked : goal.returns-then-asked
unfolding either
returns-then-asked c = rw c.if-asked.true (ap (bit_or c.args.marks) (one_bit _ c.requires))
