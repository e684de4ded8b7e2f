-- Adoption, and form, which is adoption of (M, word 2): one change, done at the last primary's word. Recovery finds it there, and every further store puts what
-- recovery would; the record left follows the whole one it began on.
use mathlib.Core.Bool.{Bool, true, false, not, cond, ◌&&◌}
use mathlib.Core.Logic.{⊎_elim}
use mathlib.Core.Path.{◌≡◌, refl, sym, ap, subst, ◌∙◌}
use mathlib.Core.List.{List, [], ◌∷◌, ◌++◌}
use Prim.Native.Nat.{ℕ, ◌+◌, ◌≤◌, ◌<◌, max}
use native.Mathlib.Nat.{le_antisymm}
use native.Mathlib.Omega.{arith}
use lib.Dec.{eqb, leb, ltb}
use lib.ListN.{length}
use borrow.Author.Tests.{ne_eqb, leb-false, le-leb, ltb-true, ltb-false, le-ltb}
use Rattle.loops.specs.Below.{collect}
use Rattle.loops.proofs.Laws.Truth.{and_right, cond-elim, passes-or-fails, clash}
use Rattle.loops.proofs.Laws.Lists.{collect-cong}
use Rattle.group.specs.Heads.{has}
use Rattle.group.specs.Words.{num, rank, session_word}
use Rattle.group.proofs.Laws.Words.{rank-none, rank-some, none_or_some, word_number}
use Rattle.store.specs.Desk.{Store, stored, apply, store_if}
use Rattle.store.proofs.Laws.Put.{stored-length, apply-store_if}
use Rattle.store.proofs.Laws.Script.{apply-append, apply-length}
use Rattle.record.specs.Layout.{settings, own, entered, number, primary, formed_for, place_at, marks_at, store_number, store_primary, store_formed, store_place, store_marks}
use Rattle.record.specs.Whole.{whole}
use Rattle.record.proofs.Laws.Layout.{Reads, number-stored, primary-stored}
use Rattle.record.proofs.Laws.Whole.{Whole, whole_parts, place-number}
use Rattle.recovery.specs.Recover.{greatest, mended}
use Rattle.recovery.specs.Changes.{clear_change, past, formed_stores, adopt_change, form_change}
use Rattle.recovery.specs.Statements.{Sound, AdoptSound, FormSound}
use Rattle.recovery.proofs.Laws.Phases.{collect-phase}
use Rattle.recovery.proofs.Laws.Fields.{formed-reads, cleared-reads}
use Rattle.recovery.proofs.Laws.Greatest.{greatest-le, primary-le}
use Rattle.recovery.proofs.Laws.Mended.{mended_formed, mended_place, mended_marks, mended-reads}
use Rattle.recovery.proofs.Laws.Again.{agrees_number, agrees-formed, agrees-place, agrees-marks}
use Rattle.recovery.proofs.Laws.Cut.{AllAgree, AllAgree.none as none, AllAgree.more as more, all_append, all-collect, if-agrees, change-sound}
use Rattle.recovery.proofs.Laws.Follows.{Last.rises as rises, Placed, Placed.free as free, Placed.kept as kept, follows-whole}
use Rattle.recovery.proofs.Laws.Small.{marks_stay, none-new}

-- ---- the stores of last formed, and of cleared places

pub formed-stores : (w : ℕ) (x : List ℕ) → length x ≡ 52
    → Reads (apply (formed_stores w) x) (settings x) (entered x) (number x) (primary x) (λ q. cond (has w q) w (formed_for x q)) (place_at x) (marks_at x)
unfolding formed_stores
formed-stores w x long =
    rw (collect-phase 16 (λ q. store_if (has w q) (store_formed q w)) x)
    (formed-reads (λ q y. store_if (has w q) (store_formed q w)) (λ y. w) (λ q y. apply-store_if (has w q) (store_formed q w) y) (λ y l q u h. refl) x long)

clear-made : (b : Bool) (i : ℕ) (y : List ℕ) → apply (cond b (clear_change i) []) y ≡ cond b (stored (store_marks i 0) (stored (store_place i 0) y)) y
unfolding clear_change apply
clear-made true i y = refl
clear-made false i y = refl

pub cleared-stores : (t : ℕ → Bool) (x : List ℕ) → length x ≡ 52
    → Reads (apply (collect 16 (λ i. cond (t i) (clear_change i) [])) x) (settings x) (entered x) (number x) (primary x) (formed_for x)
    (λ i. cond (t i) 0 (place_at x i)) (λ i. cond (t i) 0 (marks_at x i))
cleared-stores t x long =
    rw (collect-phase 16 (λ i. cond (t i) (clear_change i) []) x) (cleared-reads (λ i y. cond (t i) (clear_change i) []) t (λ i y. clear-made (t i) i y) x long)

-- ---- the record after an adoption

rising : (b : Bool) (n v : ℕ) → ltb n v ≡ b → cond b v n ≡ max n v
rising true n v e = omega (arith, ltb-true n v e)
rising false n v e = omega (arith, ltb-false n v e)

module _ (r : List ℕ) (w : ℕ) (long : length r ≡ 52) where
  -- last primary is stored
  abbrev first : List ℕ
  first = stored (store_primary w) r

  long₁ : length first ≡ 52
  long₁ = stored-length (store_primary w) r ∙ long

  one : Reads first (settings r) (entered r) (number r) w (formed_for r) (place_at r) (marks_at r)
  one = primary-stored r long w

  -- then word 2 if it rises
  second : List ℕ
  second = apply (store_if (ltb (number r) (num w)) (store_number (num w))) first

  long₂ : length second ≡ 52
  unfolding second
  long₂ = apply-length (store_if (ltb (number r) (num w)) (store_number (num w))) first ∙ long₁

  two : Reads second (settings r) (entered r) (max (number r) (num w)) w (formed_for r) (place_at r) (marks_at r)
  unfolding second
  two = rw (apply-store_if (ltb (number r) (num w)) (store_number (num w)) first) (go (ltb (number r) (num w)) refl)
    where
      go : (b : Bool) → ltb (number r) (num w) ≡ b
          → Reads (cond b (stored (store_number (num w)) first) first) (settings r) (entered r) (max (number r) (num w)) w (formed_for r) (place_at r) (marks_at r)
      go true e = let s = number-stored first long₁ (num w) in record {
        settings-is = s.settings-is ∙ one.settings-is;
        entered-is = s.entered-is ∙ one.entered-is;
        number_is = s.number_is ∙ rising true (number r) (num w) e;
        primary-is = s.primary-is ∙ one.primary-is;
        formed-is = λ q h. s.formed-is q h ∙ one.formed-is q h;
        place_is = λ i h. s.place_is i h ∙ one.place_is i h;
        marks-is = λ i h. s.marks-is i h ∙ one.marks-is i h;
      }
      go false e = record {
        settings-is = one.settings-is;
        entered-is = one.entered-is;
        number_is = one.number_is ∙ rising false (number r) (num w) e;
        primary-is = one.primary-is;
        formed-is = one.formed-is;
        place_is = one.place_is;
        marks-is = one.marks-is;
      }

  -- then last formed and the places
  pub adopted : Reads (apply (adopt_change r w) r) (settings r) (entered r) (max (number r) (num w)) w (λ q. cond (has w q) w (formed_for r q))
      (λ i. cond (past r w i) 0 (place_at r i)) (λ i. cond (past r w i) 0 (marks_at r i))
  unfolding adopt_change apply second
  adopted =
      let third : List ℕ = apply (formed_stores w) second in
      let f = formed-stores w second long₂ in
      let c = cleared-stores (past r w) third (apply-length (formed_stores w) second ∙ long₂) in
      rw (
        apply-append (store_if (ltb (number r) (num w)) (store_number (num w))) (formed_stores w ++ collect 16 (λ i. cond (past r w i) (clear_change i) [])) first,
        apply-append (formed_stores w) (collect 16 (λ i. cond (past r w i) (clear_change i) [])) second,
      )
      record {
        settings-is = c.settings-is ∙ f.settings-is ∙ two.settings-is;
        entered-is = c.entered-is ∙ f.entered-is ∙ two.entered-is;
        number_is = c.number_is ∙ f.number_is ∙ two.number_is;
        primary-is = c.primary-is ∙ f.primary-is ∙ two.primary-is;
        formed-is = λ q h. c.formed-is q h ∙ f.formed-is q h ∙ ap (cond (has w q) w) (two.formed-is q h);
        place_is = λ i h. c.place_is i h ∙ ap (cond (past r w i) 0) (f.place_is i h ∙ two.place_is i h);
        marks-is = λ i h. c.marks-is i h ∙ ap (cond (past r w i) 0) (f.marks-is i h ∙ two.marks-is i h);
      }

-- ---- the record after an adoption is whole

-- a place that is not past w is free or above it
left-above : (r : List ℕ) (w i : ℕ) → past r w i ≡ false → (place_at r i ≡ 0 → ⊥) → rank w < rank (place_at r i)
unfolding past
left-above r w i t n = leb-false (rank (place_at r i)) (rank w) (and-fails (eqb (place_at r i) 0) (leb (rank (place_at r i)) (rank w)) (ne_eqb (place_at r i) 0 n) t)
  where
    and-fails : (a b : Bool) → a ≡ false → (not a && b) ≡ false → b ≡ false
    and-fails true b e f = absurd (clash e)
    and-fails false b e f = f

module _ (r : List ℕ) (w : ℕ) (good : Whole r) (sw : session_word w ≡ true) (hw : has w (own r) ≡ true) (hi : rank (primary r) < rank w) where
  adopt-whole : whole (apply (adopt_change r w) r) ≡ true
  adopt-whole =
      let y : List ℕ = apply (adopt_change r w) r in
      let s = adopted r w good.long in
      let places : (i : ℕ) → i < 16 → Placed r y i = λ i h.
      ⊎_elim (λ t. free (s.place_is i h ∙ rw t) (s.marks-is i h ∙ rw t))
      (λ t. kept (s.place_is i h ∙ rw t) (λ n. rw s.primary-is (left-above r w i t n)) (rw (s.marks-is i h, t) (marks_stay r good i h)))
      (passes-or-fails (past r w i)) in
      follows-whole r y good (record {
        long = apply-length (adopt_change r w) r ∙ good.long;
        group = s.settings-is;
        view = rw s.entered-is good.view;
        up = omega (arith, s.number_is);
        top = omega (arith, s.number_is, good.top, word_number w sw);
        last = rises (rw s.primary-is sw) (rw s.primary-is hw) (rw s.primary-is hi) (omega (arith, s.number_is, ap num s.primary-is));
        formed = λ q h. rw s.primary-is (s.formed-is q h);
        places = places;
        one-new = none-new r good y (λ i h. rw (s.place_is i h)
            (cond-elim (λ (v : ℕ). num v ≤ number r) (past r w i) 0 (place_at r i) (λ t. omega arith) (λ t. place-number r good i h)));
      })

  -- ---- every store after the first puts what recovery would

  abbrev n : List ℕ
  n = mended (first r w good.long)

  m : Reads n (settings (first r w good.long)) (entered (first r w good.long)) (greatest (first r w good.long)) (primary (first r w good.long))
      (mended_formed (first r w good.long)) (mended_place (first r w good.long)) (mended_marks (first r w good.long))
  m = mended-reads (first r w good.long) (long₁ r w good.long)

  raised-to : number r < num w → greatest (first r w good.long) ≡ num w
  raised-to l =
      let s = one r w good.long in
      le_antisymm
      (greatest-le (first r w good.long) (num w) (omega (arith, s.number_is)) (omega (arith, ap num s.primary-is))
      (λ i h. omega (arith, ap num (s.place_is i h), place-number r good i h)))
      (omega (arith, primary-le (first r w good.long), ap num s.primary-is))

  clear-agrees : (i : ℕ) → i < 16 → (b : Bool) → past r w i ≡ b → AllAgree n (cond b (clear_change i) [])
  unfolding clear_change past
  clear-agrees i h true t =
      let s = one r w good.long in
      let gone : mended_place (first r w good.long) i ≡ 0 =
      rw (s.place_is i h, s.primary-is, and_right (not (eqb (place_at r i) 0)) (leb (rank (place_at r i)) (rank w)) t) in
      let wiped : mended_marks (first r w good.long) i ≡ 0 = rw gone in
      more (agrees-place h (sym (m.place_is i h ∙ gone))) (more (agrees-marks h (sym (m.marks-is i h ∙ wiped))) none)
  clear-agrees i h false t = none

  rest-agrees : AllAgree n (store_if (ltb (number r) (num w)) (store_number (num w)) ++ (formed_stores w ++ collect 16 (λ i. cond (past r w i) (clear_change i) [])))
  unfolding formed_stores
  rest-agrees =
      let s = one r w good.long in
      all_append (store_if (ltb (number r) (num w)) (store_number (num w))) _
      (if-agrees n (ltb (number r) (num w)) (store_number (num w)) (λ t. agrees_number (sym (m.number_is ∙ raised-to (ltb-true (number r) (num w) t)))))
      (all_append (collect 16 (λ q. store_if (has w q) (store_formed q w))) _
      (all-collect n (λ q. store_if (has w q) (store_formed q w)) 16
      (λ q h. if-agrees n (has w q) (store_formed q w) (λ t. agrees-formed h (sym (m.formed-is q h ∙ rw (s.primary-is, t))))))
      (all-collect n (λ i. cond (past r w i) (clear_change i) []) 16 (λ i h. clear-agrees i h (past r w i) refl)))

-- ADOPTION IS ONE CHANGE
pub adopt-sound : AdoptSound
unfolding adopt_change apply
adopt-sound r w e sw hw hi =
    let good = whole_parts r e in
    change-sound r (store_primary w) (store_if (ltb (number r) (num w)) (store_number (num w)) ++ (formed_stores w ++ collect 16 (λ i. cond (past r w i) (clear_change i) [])))
    e (rest-agrees r w good sw hw hi) (adopt-whole r w good sw hw hi)

-- ---- form

used-past : (r : List ℕ) (w i : ℕ) → Whole r → i < 16 → rank (primary r) < rank w → num w ≡ number r → not (eqb (place_at r i) 0) ≡ past r w i
unfolding past
used-past r w i good h hi e = go (eqb (place_at r i) 0) refl
  where
    below : rank (place_at r i) ≤ rank w
    below =
        let some : rank w ≡ num w + 1 = rank-some w (λ z. absurd (omega (arith, ap rank z, rank-none))) in
        ⊎_elim (λ z. omega (arith, ap rank z, rank-none)) (λ f. omega (arith, place-number r good i h)) (none_or_some (place_at r i))

    go : (b : Bool) → eqb (place_at r i) 0 ≡ b → not b ≡ (not b && leb (rank (place_at r i)) (rank w))
    go true t = refl
    go false t = sym (le-leb (rank (place_at r i)) (rank w) below)

-- FORM IS ADOPTION: word 2 does not rise, and every used place is at or below the session formed
pub form-adopts : (r : List ℕ) (w : ℕ) → Whole r → rank (primary r) < rank w → num w ≡ number r → form_change r w ≡ adopt_change r w
unfolding form_change adopt_change store_if
form-adopts r w good hi e =
    let same : ltb (number r) (num w) ≡ false = le-ltb (number r) (num w) (omega arith) in
    rw same (ap (λ (c : List Store). store_primary w ∷ (formed_stores w ++ c))
    (collect-cong 16 (λ i. cond (not (eqb (place_at r i) 0)) (clear_change i) []) (λ i. cond (past r w i) (clear_change i) [])
    (λ i h. ap (λ (b : Bool). cond b (clear_change i) []) (used-past r w i good h hi e))))

pub form-sound : FormSound
form-sound r w e sw hw hi n = subst (Sound r) (sym (form-adopts r w (whole_parts r e) hi n)) (adopt-sound r w e sw hw hi)
