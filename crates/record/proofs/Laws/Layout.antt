-- What each field reads after each store, and that the fields are all there is of a record. A store changes one word, and each field is one word of its own.
use mathlib.Core.Bool.{Bool, true, cond}
use mathlib.Core.Logic.{⊎_elim}
use mathlib.Core.Path.{◌≡◌, refl, sym, ap, subst, ◌∙◌}
use mathlib.Core.List.{List, []}
use Prim.Native.Nat.{ℕ, ◌+◌, ◌-◌, ◌/◌, ◌%◌, ◌≤◌, ◌<◌}
use native.Mathlib.Omega.{arith}
use lib.Dec.{eqb}
use lib.ListN.{length}
use lib.Seq.{ext_get_or}
use borrow.Author.Tests.{eq-eqb, ne_eqb, eqb-true, eqb-false}
use Rattle.loops.proofs.Laws.Truth.{cond-elim}
use Rattle.loops.proofs.Laws.Order.{lt-or-ge}
use Rattle.store.specs.Desk.{Store, store, stored, diff_if}
use Rattle.store.proofs.Laws.Put.{stored_here, stored_there, diff_if-none}
use Rattle.record.specs.Layout.{word, settings, core, least, own, entered, number, primary, formed_for, place_at, marks_at, store_settings, store_entered, store_number, store_primary, store_formed, store_place, store_marks}

-- ---- own head, W0 and Q are parts of word 0

pub same-core : (a b : List ℕ) → settings a ≡ settings b → core a ≡ core b
unfolding core
same-core a b e = ap (λ (w : ℕ). w % 65536) e

pub same-least : (a b : List ℕ) → settings a ≡ settings b → least a ≡ least b
unfolding least
same-least a b e = ap (λ (w : ℕ). w / 65536 % 256) e

pub same-own : (a b : List ℕ) → settings a ≡ settings b → own a ≡ own b
unfolding own
same-own a b e = ap (λ (w : ℕ). w / 16777216 % 16) e

pub own-small : (r : List ℕ) → own r < 16
unfolding own
own-small r = omega arith

-- ---- the fields of a record

-- record a reads so, field by field
pub record Reads (a : List ℕ) (g v n p : ℕ) (formed place marks : ℕ → ℕ) : Type 0 where
  pub settings-is : settings a ≡ g
  pub entered-is : entered a ≡ v
  pub number_is : number a ≡ n
  pub primary-is : primary a ≡ p
  pub formed-is : (q : ℕ) → q < 16 → formed_for a q ≡ formed q
  pub place_is : (i : ℕ) → i < 16 → place_at a i ≡ place i
  pub marks-is : (i : ℕ) → i < 16 → marks_at a i ≡ marks i

-- the fields of a record of 52 words are all of it
module _ {a b : List ℕ} {g v n p : ℕ} {formed place marks : ℕ → ℕ} (s : Reads a g v n p formed place marks) (t : Reads b g v n p formed place marks) where
  shifted : (base k : ℕ) → base ≤ k → word a (base + (k - base)) ≡ word b (base + (k - base)) → word a k ≡ word b k
  shifted base k h e = subst (λ (j : ℕ). word a j ≡ word b j) (omega arith) e

  same_word : (k : ℕ) → k < 52 → word a k ≡ word b k
  unfolding settings entered number primary formed_for place_at marks_at
  same_word k h =
      ⊎_elim (λ l. subst (λ (j : ℕ). word a j ≡ word b j) (omega arith) (s.settings-is ∙ sym t.settings-is)) (λ g₁.
      ⊎_elim (λ l. subst (λ (j : ℕ). word a j ≡ word b j) (omega arith) (s.entered-is ∙ sym t.entered-is)) (λ g₂.
      ⊎_elim (λ l. subst (λ (j : ℕ). word a j ≡ word b j) (omega arith) (s.number_is ∙ sym t.number_is)) (λ g₃.
      ⊎_elim (λ l. subst (λ (j : ℕ). word a j ≡ word b j) (omega arith) (s.primary-is ∙ sym t.primary-is)) (λ g₄.
      ⊎_elim (λ l. shifted 4 k g₄ (s.formed-is (k - 4) (omega arith) ∙ sym (t.formed-is (k - 4) (omega arith)))) (λ g₂₀.
      ⊎_elim (λ l. shifted 20 k g₂₀ (s.place_is (k - 20) (omega arith) ∙ sym (t.place_is (k - 20) (omega arith)))) (λ g₃₆.
      shifted 36 k g₃₆ (s.marks-is (k - 36) (omega arith) ∙ sym (t.marks-is (k - 36) (omega arith))))
      (lt-or-ge k 36)) (lt-or-ge k 20)) (lt-or-ge k 4)) (lt-or-ge k 3)) (lt-or-ge k 2)) (lt-or-ge k 1)

  pub fields-ext : length a ≡ 52 → length b ≡ 52 → a ≡ b
  fields-ext la lb = ext_get_or 0 a b (la ∙ sym lb) (λ k l. same_word k (omega arith))

-- ---- what a store is of: it puts w where the field is read

pub record Puts (s : Store) (field : List ℕ → ℕ) (w : ℕ) : Type 0 where
  pub old : (r : List ℕ) → word r s.at ≡ field r
  pub new : s.word ≡ w

pub settings-puts : (w : ℕ) → Puts (store_settings w) settings w
unfolding store_settings settings
settings-puts w = record { old = λ r. refl; new = refl }

pub entered-puts : (v : ℕ) → Puts (store_entered v) entered v
unfolding store_entered entered
entered-puts v = record { old = λ r. refl; new = refl }

pub primary-puts : (w : ℕ) → Puts (store_primary w) primary w
unfolding store_primary primary
primary-puts w = record { old = λ r. refl; new = refl }

pub number-puts : (n : ℕ) → Puts (store_number n) number n
unfolding store_number number
number-puts n = record { old = λ r. refl; new = refl }

pub formed-puts : (q w : ℕ) → Puts (store_formed q w) (λ r. formed_for r q) w
unfolding store_formed formed_for
formed-puts q w = record { old = λ r. refl; new = refl }

pub place-puts : (i w : ℕ) → Puts (store_place i w) (λ r. place_at r i) w
unfolding store_place place_at
place-puts i w = record { old = λ r. refl; new = refl }

pub marks-puts : (i m : ℕ) → Puts (store_marks i m) (λ r. marks_at r i) m
unfolding store_marks marks_at
marks-puts i m = record { old = λ r. refl; new = refl }

-- a store that would change nothing is not made
pub not-stored : {s : Store} {field : List ℕ → ℕ} {w : ℕ} → Puts s field w → (c : Bool) (r : List ℕ) → (c ≡ true → field r ≡ w) → diff_if c s r ≡ []
not-stored {s} p c r h = diff_if-none c s r (λ e. p.old r ∙ h e ∙ sym p.new)

-- ---- after a store

-- f with w at i
unfoldable pub changed : ℕ → ℕ → (ℕ → ℕ) → ℕ → ℕ
changed i w f j = cond (eqb j i) w (f j)

pub changed-here : (i w : ℕ) (f : ℕ → ℕ) → changed i w f i ≡ w
unfolding changed
changed-here i w f = rw (eq-eqb i i refl)

pub changed-there : (i w : ℕ) (f : ℕ → ℕ) (j : ℕ) → (j ≡ i → ⊥) → changed i w f j ≡ f j
unfolding changed
changed-there i w f j h = rw (ne_eqb j i h)

-- one of n neighbouring words is stored
one_of : (base n i w : ℕ) (r : List ℕ) → base + n ≤ length r → i < n
    → (j : ℕ) → j < n → word (stored (store (base + i) w) r) (base + j) ≡ changed i w (λ k. word r (base + k)) j
unfolding changed
one_of base n i w r l h j hj =
    cond-elim (λ (v : ℕ). word (stored (store (base + i) w) r) (base + j) ≡ v) (eqb j i) w (word r (base + j))
    (λ e. ap (λ (k : ℕ). word (stored (store (base + i) w) r) (base + k)) (eqb-true j i e) ∙ stored_here (store (base + i) w) r (omega arith))
    (λ e. stored_there (store (base + i) w) r (base + j) (λ q. eqb-false j i e (omega arith)))

module _ (r : List ℕ) (long : length r ≡ 52) where
  pub entered-stored : (v : ℕ) → Reads (stored (store_entered v) r) (settings r) v (number r) (primary r) (formed_for r) (place_at r) (marks_at r)
  unfolding store_entered settings entered number primary formed_for place_at marks_at
  entered-stored v = record {
    settings-is = stored_there (store 1 v) r 0 (λ e. omega arith);
    entered-is = stored_here (store 1 v) r (omega arith);
    number_is = stored_there (store 1 v) r 2 (λ e. omega arith);
    primary-is = stored_there (store 1 v) r 3 (λ e. omega arith);
    formed-is = λ q h. stored_there (store 1 v) r (4 + q) (λ e. omega arith);
    place_is = λ i h. stored_there (store 1 v) r (20 + i) (λ e. omega arith);
    marks-is = λ i h. stored_there (store 1 v) r (36 + i) (λ e. omega arith);
  }

  pub number-stored : (n : ℕ) → Reads (stored (store_number n) r) (settings r) (entered r) n (primary r) (formed_for r) (place_at r) (marks_at r)
  unfolding store_number settings entered number primary formed_for place_at marks_at
  number-stored n = record {
    settings-is = stored_there (store 2 n) r 0 (λ e. omega arith);
    entered-is = stored_there (store 2 n) r 1 (λ e. omega arith);
    number_is = stored_here (store 2 n) r (omega arith);
    primary-is = stored_there (store 2 n) r 3 (λ e. omega arith);
    formed-is = λ q h. stored_there (store 2 n) r (4 + q) (λ e. omega arith);
    place_is = λ i h. stored_there (store 2 n) r (20 + i) (λ e. omega arith);
    marks-is = λ i h. stored_there (store 2 n) r (36 + i) (λ e. omega arith);
  }

  pub primary-stored : (w : ℕ) → Reads (stored (store_primary w) r) (settings r) (entered r) (number r) w (formed_for r) (place_at r) (marks_at r)
  unfolding store_primary settings entered number primary formed_for place_at marks_at
  primary-stored w = record {
    settings-is = stored_there (store 3 w) r 0 (λ e. omega arith);
    entered-is = stored_there (store 3 w) r 1 (λ e. omega arith);
    number_is = stored_there (store 3 w) r 2 (λ e. omega arith);
    primary-is = stored_here (store 3 w) r (omega arith);
    formed-is = λ q h. stored_there (store 3 w) r (4 + q) (λ e. omega arith);
    place_is = λ i h. stored_there (store 3 w) r (20 + i) (λ e. omega arith);
    marks-is = λ i h. stored_there (store 3 w) r (36 + i) (λ e. omega arith);
  }

  pub formed-stored : (q w : ℕ) → q < 16
      → Reads (stored (store_formed q w) r) (settings r) (entered r) (number r) (primary r) (changed q w (formed_for r)) (place_at r) (marks_at r)
  unfolding store_formed settings entered number primary formed_for place_at marks_at
  formed-stored q w l = record {
    settings-is = stored_there (store (4 + q) w) r 0 (λ e. omega arith);
    entered-is = stored_there (store (4 + q) w) r 1 (λ e. omega arith);
    number_is = stored_there (store (4 + q) w) r 2 (λ e. omega arith);
    primary-is = stored_there (store (4 + q) w) r 3 (λ e. omega arith);
    formed-is = one_of 4 16 q w r (omega arith) l;
    place_is = λ i h. stored_there (store (4 + q) w) r (20 + i) (λ e. omega arith);
    marks-is = λ i h. stored_there (store (4 + q) w) r (36 + i) (λ e. omega arith);
  }

  pub place-stored : (i w : ℕ) → i < 16
      → Reads (stored (store_place i w) r) (settings r) (entered r) (number r) (primary r) (formed_for r) (changed i w (place_at r)) (marks_at r)
  unfolding store_place settings entered number primary formed_for place_at marks_at
  place-stored i w l = record {
    settings-is = stored_there (store (20 + i) w) r 0 (λ e. omega arith);
    entered-is = stored_there (store (20 + i) w) r 1 (λ e. omega arith);
    number_is = stored_there (store (20 + i) w) r 2 (λ e. omega arith);
    primary-is = stored_there (store (20 + i) w) r 3 (λ e. omega arith);
    formed-is = λ q h. stored_there (store (20 + i) w) r (4 + q) (λ e. omega arith);
    place_is = one_of 20 16 i w r (omega arith) l;
    marks-is = λ j h. stored_there (store (20 + i) w) r (36 + j) (λ e. omega arith);
  }

  pub marks-stored : (i m : ℕ) → i < 16
      → Reads (stored (store_marks i m) r) (settings r) (entered r) (number r) (primary r) (formed_for r) (place_at r) (changed i m (marks_at r))
  unfolding store_marks settings entered number primary formed_for place_at marks_at
  marks-stored i m l = record {
    settings-is = stored_there (store (36 + i) m) r 0 (λ e. omega arith);
    entered-is = stored_there (store (36 + i) m) r 1 (λ e. omega arith);
    number_is = stored_there (store (36 + i) m) r 2 (λ e. omega arith);
    primary-is = stored_there (store (36 + i) m) r 3 (λ e. omega arith);
    formed-is = λ q h. stored_there (store (36 + i) m) r (4 + q) (λ e. omega arith);
    place_is = λ j h. stored_there (store (36 + i) m) r (20 + j) (λ e. omega arith);
    marks-is = one_of 36 16 i m r (omega arith) l;
  }

-- the marks stand apart from word 0, also in a record that is too short
pub settings-marked : (r : List ℕ) (i m : ℕ) → settings (stored (store_marks i m) r) ≡ settings r
unfolding settings store_marks
settings-marked r i m = stored_there (store (36 + i) m) r 0 (λ e. omega arith)
