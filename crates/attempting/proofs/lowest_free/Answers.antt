-- The first of the sixteen places that is free is the lowest.
use mathlib.Core.Path.{◌≡◌, ap}
use mathlib.Core.Bool.{Bool, cond}
use Prim.Native.Nat.{ℕ, ◌<◌}
use native.Mathlib.Omega.{arith}
use lib.Dec.{eqb, ltb}
use borrow.Author.Tests.{ltb-true, ltb-false}
use Rattle.std.proofs.Common.{rules, tests, MatchOption, Some, None}
use Rattle.std.proofs.lemmas.Iterator.{YieldsList-from_slice}
use Rattle.std.proofs.lemmas.Iterator.Search.{position_from_yields_List}
use Rattle.loops.specs.Below.{first_below}
use Rattle.loops.proofs.Laws.Truth.{cond-elim}
use Rattle.loops.proofs.Laws.First.{first-le}
use Rattle.loops.proofs.Laws.Chains.{first-chain}
use Rattle.record.specs.Layout.{places}
use Rattle.record.proofs.Laws.Words.{length-places, place-in}
use Rattle.plan.specs.Attempt.{lowest_free}
use Rattle.attempting.proofs.lowest_free.Goals as goal

found : {k : ℕ} (p : ℕ → Bool) → k ≡ first_below 16 p → MatchOption (cond (ltb k 16) (Some k) None) (first_below 16 p ≡ 16) (λ i. (i ≡ first_below 16 p) × (i < 16))
found {k} p e = cond-elim (λ o. MatchOption o (first_below 16 p ≡ 16) (λ i. (i ≡ first_below 16 p) × (i < 16))) (ltb k 16) _ _ (λ t. (e, ltb-true k 16 t)) (λ f. omega (arith, first-le 16 p, ltb-false k 16 f))

pub returns : goal.returns
unfolding lowest_free
returns c =
    let r = c.args.rec.now in
    let free : ℕ → Bool = λ w. eqb w 0 in
    let at = position_from_yields_List free _ _ c.position.result c.position.ensures.ran (YieldsList-from_slice (places r) cc) (λ x b q k. search (rules, tests)) in
    rw (at, length-places r) (found _ (first-chain free _ (places r) 0 16 (length-places r) (λ i h. ap free (place-in r i h))))
