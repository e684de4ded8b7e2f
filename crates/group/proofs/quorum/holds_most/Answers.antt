-- The number of shared heads is at most sixteen, and where no more than half is shared the tie decides.
use native.Mathlib.Omega.{arith}
use Rattle.group.specs.Heads.{shared, common}
use Rattle.group.specs.Quorum.{majority, tied}
use Rattle.group.proofs.Laws.Heads.{size-le, empty-mask}
use Rattle.group.proofs.quorum.holds_most.Goals as goal

pub overflow_mul-doubled : goal.overflow_mul-doubled
unfolding shared
overflow_mul-doubled c = omega (arith, c.shared-doubled.ensures, size-le (common c.args.s c.args.t))

pub returns-then-doubled-size-2 : goal.returns-then-doubled-size-2
unfolding majority tied
returns-then-doubled-size-2 c = grind (arith, empty-mask c.args.s c.ranges.s.fits)
