-- The tests are all of the definition's, and where one fails the rest is not asked.
use native.Mathlib.Omega.{arith}
use mathlib.Core.Bool.{Bool, true, false, ◌&&◌}
use mathlib.Core.Path.{◌≡◌, refl, sym, ◌∙◌}
use Rattle.loops.proofs.Laws.Truth.{clash}
use Rattle.loops.specs.Below.{all_below}
use Rattle.record.specs.Whole.{formed_whole, place_whole, apart_whole, marks_whole}
use Rattle.record.proofs.Laws.Fewer.{first-primary, first-number, all_tests}
use Rattle.whole.proofs.words_whole.Goals.{then-first_whole, else-first_whole}
use Rattle.whole.proofs.words_whole.Goals as goal

both_pass : (a b c : Bool) {x : Bool} → a ≡ true → b ≡ true → (a && (b && c)) ≡ x → c ≡ x
both_pass true true c e f t = t
both_pass true false c e f t = absurd (clash (sym f))
both_pass false b c e f t = absurd (clash (sym e))

first_fails : (a b c : Bool) {x : Bool} → a ≡ false → (a && (b && c)) ≡ x → a ≡ x
first_fails true b c e t = absurd (clash e)
first_fails false b c e t = t

second_fails : (a b c : Bool) {x : Bool} → a ≡ true → b ≡ false → (a && (b && c)) ≡ x → b ≡ x
second_fails true true c e f t = absurd (clash f)
second_fails true false c e f t = t
second_fails false b c e f t = absurd (clash (sym e))

pub all_formed-requires : goal.all_formed-requires
all_formed-requires c = first-primary _ (sym c.first_whole.ensures ∙ c.if-first_whole.true)

pub all_places-requires : goal.all_places-requires
all_places-requires c =
    elim c.if-first_whole.branch [
      | then-first_whole w ↦ first-number _ (sym c.first_whole.ensures ∙ w.if-first_whole.true)
      | else-first_whole w ↦ absurd (clash (sym c.if-all_formed.true ∙ w.value-is ∙ w.if-first_whole.false))
    ]

pub returns-then-all_formed : goal.returns-then-all_formed
returns-then-all_formed c =
    elim c.if-first_whole.branch [
      | then-first_whole w ↦
          both_pass _ _ _ w.if-first_whole.true (sym w.value-is ∙ c.if-all_formed.true) (all_tests _ (omega arith) c.first_whole.ensures w.all_formed.ensures c.all_places.ensures)
      | else-first_whole w ↦ absurd (clash (sym c.if-all_formed.true ∙ w.value-is ∙ w.if-first_whole.false))
    ]

pub returns-else-all_formed : goal.returns-else-all_formed
returns-else-all_formed c =
    elim c.if-first_whole.branch [
      | then-first_whole w ↦
          w.value-is ∙ second_fails _ _ _ w.if-first_whole.true (sym w.value-is ∙ c.if-all_formed.false) (all_tests _ (omega arith) c.first_whole.ensures w.all_formed.ensures refl)
      | else-first_whole w ↦ w.value-is ∙ first_fails _ (all_below 16 (formed_whole c.args.rec.now)) (all_below 16 (λ i. place_whole c.args.rec.now i && apart_whole c.args.rec.now i && marks_whole c.args.rec.now i)) w.if-first_whole.false
          (all_tests _ (omega arith) c.first_whole.ensures refl refl)
    ]
