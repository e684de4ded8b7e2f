-- Start, case by case.
use mathlib.Core.Bool.{true, false, not, ◌&&◌}
use mathlib.Core.Path.{◌≡◌, refl, sym, ap, ◌∙◌}
use mathlib.Core.List.{List}
use Prim.Native.Nat.{ℕ, ◌<◌, ◌+◌, ◌*◌, ◌/◌, ◌%◌}
use lib.Dec.{eqb, leb}
use lib.ListN.{length}
use native.Mathlib.Nat.{lt_irrefl}
use native.Mathlib.Omega.{arith}
use Rattle.loops.proofs.Laws.Truth.{and_left, and_right, and_both, cond-elim, not-true}
use Rattle.std.specs.Prelude.{Result}
use Rattle.group.specs.declared.answers.Answer.{Answer}
use Rattle.group.specs.declared.answers.Refusal.{Refusal}
use Rattle.group.specs.Quorum.{is_group}
use Rattle.record.specs.Outcome.{outcome, Outcome}
use Rattle.record.specs.Layout.{settings, core, least, own}
use Rattle.record.specs.Whole.{group_whole, whole}
use Rattle.record.proofs.Laws.Outcome.{one-outcome}
use Rattle.group.specs.Heads.{size, empty}
use Rattle.record.proofs.Laws.Layout.{own-small}
use Rattle.record.proofs.Laws.Fresh.{fresh-reads, fresh-whole}
use borrow.Author.Tests.{eq-eqb, ne_eqb, leb-true, le-leb, ltb-true}
use Rattle.group.specs.Answers.{started, refused}
use Rattle.group.specs.Fresh.{group_word, fresh_record}
use Rattle.record.specs.Start.{taken_least, can_start, start_spec}

-- ---- the call, case by case

module _ (r : List ℕ) (head core least : ℕ) {q : ℕ} (taken : q ≡ taken_least least) where
  pub not-a-group : can_start head core q ≡ false → record { answer = refused 1; rec = r } ≡ start_spec r head core least
  unfolding start_spec
  not-a-group e = rw (← taken, e)

  pub not-the-length : can_start head core q ≡ true → (length r ≡ 52 → ⊥) → record { answer = refused 2; rec = r } ≡ start_spec r head core least
  unfolding start_spec
  not-the-length e h = rw (← taken, e, ne_eqb (length r) 52 h)

  pub starts : {x : List ℕ} → can_start head core q ≡ true → length r ≡ 52 → x ≡ fresh_record core q head
      → record { answer = started; rec = x } ≡ start_spec r head core least
  unfolding start_spec
  starts e h f = rw (← taken, e, eq-eqb (length r) 52 h, f)

-- ---- what holds of it

pub can-seat : (head core q : ℕ) → can_start head core q ≡ true → head < 16
unfolding can_start
can-seat head core q e = omega (arith, leb-true head 15 (and_left (leb head 15) (is_group core q) e))

pub can-group : (head core q : ℕ) → can_start head core q ≡ true → is_group core q ≡ true
unfolding can_start
can-group head core q e = and_right (leb head 15) (is_group core q) e

-- two outcomes that the contract allows are equal
pub start-determined : (r : List ℕ) (head core least : ℕ) (a b : List ℕ) (x y : Result Answer Refusal)
    → outcome a x ≡ start_spec r head core least → outcome b y ≡ start_spec r head core least → (a ≡ b) × (x ≡ y)
start-determined r head core least = one-outcome (start_spec r head core least)

-- A STARTED RECORD IS WHOLE
pub started-whole : (r : List ℕ) (head core least : ℕ) → core < 65536
    → (start_spec r head core least).answer ≡ started → whole (start_spec r head core least).rec ≡ true
unfolding start_spec
started-whole r head core least small =
    cond-elim Good (can_start head core (taken_least least)) _ _
    (λ e. cond-elim Good (eqb (length r) 52) _ _ (λ l. λ s. fresh-whole core (taken_least least) head small (can-seat head core (taken_least least) e) (can-group head core (taken_least least) e)) (λ l. not-refused 2))
    (λ e. not-refused 1)
  where
    Good : Outcome → Type 0
    Good o = o.answer ≡ started → whole o.rec ≡ true

    not-refused : (n : ℕ) → refused n ≡ started → whole r ≡ true
    not-refused n s = let z : ◌≡◌ {A = ℕ} 0 1 = cc in absurd (lt_irrefl 0 (omega arith))

-- ---- "word 0 as start could make it"

kept-least : (c q : ℕ) → is_group c q ≡ true → q ≡ taken_least q
unfolding is_group taken_least
kept-least c q e = rw (not-true (eqb q 0) (and_right (not (empty c)) (not (eqb q 0)) (and_left (not (empty c) && not (eqb q 0)) (leb q (size c)) e)))

word-parts : (w : ℕ) → w / 16777216 < 16 → w % 65536 + w / 65536 % 256 * 65536 + w / 16777216 % 16 * 16777216 ≡ w
word-parts w l = omega arith

module _ (r : List ℕ) (long : length r ≡ 52) (e : group_whole r ≡ true) where
  grouped : is_group (core r) (least r) ≡ true
  unfolding group_whole
  grouped = and_left (is_group (core r) (least r)) _ e

  seated : settings r / 16777216 < 16
  unfolding group_whole
  seated = ltb-true (settings r / 16777216) 16 (and_right (is_group (core r) (least r)) _ e)

  made : record { answer = started; rec = fresh_record (core r) (least r) (own r) } ≡ start_spec r (own r) (core r) (least r)
  unfolding can_start
  made =
      starts r (own r) (core r) (least r) (kept-least (core r) (least r) grouped)
      (and_both _ _ (le-leb (own r) 15 (omega (arith, own-small r))) grouped) long refl

  -- a start of its own head, W0 and Q makes that word 0
  pub start-could-make : ((start_spec r (own r) (core r) (least r)).answer ≡ started) × (settings (start_spec r (own r) (core r) (least r)).rec ≡ settings r)
  unfolding group_word core least own
  start-could-make = (
    sym (ap (λ (o : Outcome). o.answer) made),
    sym (ap (λ (o : Outcome). settings o.rec) made) ∙ (fresh-reads (core r) (least r) (own r)).settings-is ∙ word-parts (settings r) seated,
  )
