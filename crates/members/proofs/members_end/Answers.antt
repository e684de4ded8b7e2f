-- The highest member is below 16, and no head above it is a member.
use native.Mathlib.Omega.{arith}
use Rattle.plan.proofs.Laws.Ends.{highest-lt, above-highest}
use Rattle.members.proofs.members_end.Goals as goal

pub returns : goal.returns
returns c =
    let m = c.args.m in
    (omega (arith, highest-lt m, c.top_head.ensures), λ q h. above-highest m q c.ranges.m.fits (omega (arith, c.top_head.ensures)))
