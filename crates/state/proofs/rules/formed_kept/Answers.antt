-- The usual words are in order; of others each is asked.
use Rattle.std.proofs.Common.{◌≡◌, refl, sym, ◌∙◌, true, cond, get_or, eqb, arith}
use borrow.Author.Tests.{eqb-true}
use Rattle.loops.specs.Below.{all_below}
use Rattle.loops.proofs.Laws.Tests.{all-at, all_of}
use Rattle.loops.proofs.Laws.Chains.{fold-enumerate}
use Rattle.group.specs.Heads.{has}
use Rattle.group.specs.Words.{formed_ok}
use Rattle.group.proofs.Laws.Formed.{formed-usual}
use Rattle.state.proofs.rules.formed_kept.Goals as goal

pub returns-then-all_usual : goal.returns-then-all_usual
unfolding all_below
returns-then-all_usual c =
    let a = c.args in
    let usual : all_below 16 (λ q. eqb (get_or a.words.now q 0) (cond (has a.p q) a.p 0)) ≡ true = sym (fold-enumerate _ _ true a.words.now 0 16 (omega arith) (λ q ok h. refl)) ∙ sym c.all_usual.ensures ∙ c.if-all_usual.true in
    c.if-all_usual.true ∙ sym (all_of 16 (λ q. formed_ok a.own a.p q (get_or a.words.now q 0)) (λ q h. formed-usual a.own a.p q _ (eqb-true _ _ (all-at 16 _ usual q h))))

pub returns-else-all_usual : goal.returns-else-all_usual
unfolding all_below
returns-else-all_usual c = c.all_formed_ok.ensures ∙ fold-enumerate _ _ true c.args.words.now 0 16 (omega arith) (λ q ok h. refl)
