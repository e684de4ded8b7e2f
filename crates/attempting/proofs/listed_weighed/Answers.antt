-- Own head's sessions stand in its sixteen places, another's in the places that count.
use mathlib.Core.Path.{ap}
use Rattle.std.proofs.Common.{arith}
use Rattle.std.proofs.lemmas.Grind.{common_steps}
use Rattle.loops.proofs.Laws.Chains.{all-chain, all-taken}
use Rattle.record.specs.Layout.{places}
use Rattle.record.proofs.Laws.Words.{length-places, place-in}
use Rattle.plan.specs.Attempt.{weighed, own_weighed, state_weighed}
use Rattle.attempting.proofs.listed_weighed.Goals as goal

pub returns-then-q-own : goal.returns-then-q-own
unfolding own_weighed
returns-then-q-own c =
    let r = c.args.rec.now in
    let e = all-chain (weighed c.args.m r c.args.top) _ (places r) 0 16 (length-places r) (λ i h. ap (weighed c.args.m r c.args.top) (place-in r i h)) in
    grind (arith, common_steps, e)

pub returns-else-q-own : goal.returns-else-q-own
unfolding state_weighed
returns-else-q-own c =
    let st = c.args.st.now in
    let e = all-taken (weighed c.args.m c.args.rec.now c.args.top) st.count st.places 0 16 c.listed.ensures.of_sixteen in
    grind (arith, common_steps, e)
