-- The code is the definition, part by part: each chain asks its words by their indexes.
use Rattle.std.proofs.Common.{◌≡◌, refl, take, get_or, arith}
use Rattle.std.specs.List.{list_all}
use Rattle.loops.specs.Below.{all_below}
use Rattle.loops.proofs.Laws.Chains.{all-chain, all-front}
use Rattle.group.specs.Words.{sound}
use Rattle.state.specs.Rules.{rule4}
use Rattle.state.proofs.rules.rule4.Goals as goal

pub returns : goal.returns
unfolding rule4
returns c =
    let st = c.args.st.now in
    let formed : list_all sound st.formed ≡ all_below 16 (λ q. sound (get_or st.formed q 0)) = all-chain _ _ st.formed 0 16 (omega arith) (λ q h. refl) in
    let places : list_all sound (take st.count st.places) ≡ all_below st.count (λ i. sound (get_or st.places i 0)) = all-front _ _ st.places 0 st.count (omega arith) (λ i h. refl) in
    rw (c.sound.ensures, c.all_sound.ensures, c.all_sound-2.ensures, formed, places) refl
