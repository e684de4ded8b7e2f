-- The code is the definition, part by part: each chain asks its words by their indexes.
use Rattle.std.proofs.Common.{◌≡◌, refl, ap, take, get_or, arith, leb}
use Rattle.std.specs.List.{list_all}
use Rattle.loops.specs.Below.{all_below}
use Rattle.loops.proofs.Laws.Chains.{all-chain, all-front}
use Rattle.group.specs.Words.{num}
use Rattle.state.specs.Rules.{rule7}
use Rattle.state.proofs.rules.rule7.Goals as goal

pub returns : goal.returns
unfolding rule7
returns c =
    let st = c.args.st.now in
    let top = c.from-top.result in
    let formed : list_all (λ w. leb (num w) top) st.formed ≡ all_below 16 (λ q. leb (num (get_or st.formed q 0)) st.number) =
    all-chain _ _ st.formed 0 16 (omega arith) (λ q h. ap (leb (num (get_or st.formed q 0))) c.from-top.ensures) in
    let places : list_all (λ w. leb (num w) top) (take st.count st.places) ≡ all_below st.count (λ i. leb (num (get_or st.places i 0)) st.number) =
    all-front _ _ st.places 0 st.count (omega arith) (λ i h. ap (leb (num (get_or st.places i 0))) c.from-top.ensures) in
    rw (c.number_of.ensures, c.all_within.ensures, c.all_within-2.ensures, formed, places, c.from-top.ensures) refl
