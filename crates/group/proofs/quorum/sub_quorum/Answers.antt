-- The tests are the definition's: an empty set is the number 0, and no more heads of the core are shared than there are.
use native.Mathlib.Omega.{arith}
use Rattle.group.specs.Heads.{shared}
use Rattle.group.specs.Quorum.{enough, blocking, passes}
use Rattle.group.proofs.Laws.Heads.{empty-mask, shared-le}
use Rattle.group.proofs.quorum.sub_quorum.Goals as goal

pub returns-then-s-eq0 : goal.returns-then-s-eq0
unfolding passes enough
returns-then-s-eq0 c = grind (arith, empty-mask c.args.s c.ranges.s.fits)

pub overflow_sub-size : goal.overflow_sub-size
unfolding shared
overflow_sub-size c = omega (arith, c.size.ensures, c.shared-ours.ensures, shared-le c.args.core c.args.t, c.if-ours-least.false)

pub returns-then-ours-size : goal.returns-then-ours-size
unfolding passes enough blocking
returns-then-ours-size c = grind (arith, empty-mask c.args.s c.ranges.s.fits)

pub returns-else-ours-size : goal.returns-else-ours-size
unfolding passes enough blocking
returns-else-ours-size c = grind (arith, empty-mask c.args.s c.ranges.s.fits)
