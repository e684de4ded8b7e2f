-- Each element of the array is what its head offers.
use Rattle.std.proofs.Common.{rules}
use Rattle.loops.proofs.Laws.Chains.{from_fn-table}
use Rattle.plan.specs.Adoption.{offered}
use Rattle.plan.proofs.Laws.Branches.{offered-by}
use Rattle.learning.proofs.adoption.offers.Goals as goal

pub returns : goal.returns
returns c =
    from_fn-table _ (offered c.args.m c.args.held.now c.args.rec.now) 0 16 c.from_fn.ensures.items
    (λ i r q k. let e = offered-by c.args.m c.args.held.now c.args.rec.now i c.own-p.ensures.0 in search (rules, e))
