-- What is asked of the places below the count is asked of these places alone.
use Rattle.std.proofs.Common.{◌≡◌, refl, ap, ◌∙◌, List, ℕ, zero, suc, ◌<◌, take, length, get_or, arith, length-take-le}
use Rattle.std.proofs.lemmas.List.{get_or-take}
use Rattle.loops.specs.Below.{all_below}
use Rattle.loops.proofs.Laws.Tests.{all-cong}
use Rattle.state.specs.Rules.{rule6, prior, place_ok}
use Rattle.state.proofs.rules.rule6.Goals as goal

prior-take : (places : List ℕ) (n i : ℕ) → i < n → prior (take n places) i ≡ prior places i
unfolding prior
prior-take places n zero h = refl
prior-take places n (suc i) h = get_or-take n places i 0 (omega arith)

pub returns : goal.returns
unfolding rule6
returns c =
    let st = c.args.st.now in
    let some = take st.count st.places in
    let e : length some ≡ st.count = length-take-le st.count st.places (omega arith) in
    c.all_place_ok.ensures
    ∙ (ap (λ (n : ℕ). all_below n (λ i. place_ok c.args.sender st.primary (prior some i) (get_or some i 0))) e
    ∙ all-cong st.count _ _ (λ i h. rw (prior-take st.places st.count i h, get_or-take st.count st.places i 0 h) refl))
