-- The words of a record in order are its fields in order, and the sixteen of a kind are neighbours.
use mathlib.Core.Path.{◌≡◌, refl, sym, ap, ◌∙◌}
use mathlib.Core.List.{List, [], ◌∷◌, ◌++◌, append_assoc, append-nil}
use Prim.Native.Nat.{ℕ, zero, suc, ◌+◌, ◌≤◌, ◌<◌}
use native.Mathlib.Omega.{arith}
use lib.ListN.{length, get_or, take, drop, length-drop}
use lib.Seq.{get_or-drop}
use Rattle.std.proofs.lemmas.List.{get_or-take, length-take-le}
use Rattle.loops.specs.Below.{table}
use Rattle.loops.proofs.Laws.Lists.{table_is, length-table, get_d-table}
use Rattle.store.specs.Desk.{store, where_changed}
use Rattle.store.specs.Program.{Step, up_to}
use Rattle.store.proofs.Laws.Program.{up_to-none, up_to-next}
use Rattle.record.specs.Layout.{word, settings, entered, number, primary, formed_for, place_at, marks_at, formed, places, field_store, field_at, InRecord, store_settings, store_entered, store_number, store_primary, store_formed, store_place, store_marks}
use Rattle.record.specs.declared.layout.Field.{Field}
use Rattle.record.specs.declared.layout.Field.TheVariants.{Entered, Number, Primary, Formed, Place, Marks}
use Rattle.record.specs.Replacing.{store_record}

-- ---- a slice of the record is a table of its words

pub part_table : (base n : ℕ) (r : List ℕ) → base + n ≤ length r → take n (drop base r) ≡ table n (λ i. word r (base + i))
part_table base n r h =
    table_is n _ 0 (take n (drop base r)) (length-take-le n (drop base r) (rw length-drop (omega arith)))
    (λ i l. get_or-take n (drop base r) i 0 l ∙ get_or-drop base r i 0)

pub ruleset slices = part_table

-- and reads so

pub length-formed : (r : List ℕ) → length (formed r) ≡ 16
unfolding formed
length-formed r = length-table 16 (formed_for r)

pub length-places : (r : List ℕ) → length (places r) ≡ 16
unfolding places
length-places r = length-table 16 (place_at r)

pub ruleset sixteen = (length-formed, length-places)

pub place-in : (r : List ℕ) (i : ℕ) → i < 16 → get_or (places r) i 0 ≡ place_at r i
unfolding places
place-in r i h = get_d-table 16 (place_at r) i 0 h

-- ---- a field is one word of the record

pub field_word : (f : Field) (w : ℕ) → store (field_at f) w ≡ field_store f w
unfolding store_entered store_number store_primary store_formed store_place store_marks
field_word Entered w = refl
field_word Number w = refl
field_word Primary w = refl
field_word (Formed q) w = refl
field_word (Place i) w = refl
field_word (Marks i) w = refl

pub field-within : (f : Field) → InRecord f → field_at f < 52
unfolding store_entered store_number store_primary store_formed store_place store_marks
field-within Entered h = omega arith
field-within Number h = omega arith
field-within Primary h = omega arith
field-within (Formed q) h = omega arith
field-within (Place i) h = omega arith
field-within (Marks i) h = omega arith

pub ruleset fields = (field_word, field-within)

-- ---- word by word

-- word k made to be that of t
unfoldable pub word_to : List ℕ → ℕ → Step
word_to t k = where_changed (store k (word t k))

split : (n m : ℕ) (f : ℕ → Step) → up_to (n + m) f ≡ up_to n f ++ up_to m (λ i. f (n + i))
split n zero f = ap (λ (k : ℕ). up_to k f) (omega arith) ∙ sym (ap (λ (p : List Step). up_to n f ++ p) (up_to-none (λ i. f (n + i))) ∙ append-nil (up_to n f))
split n (suc m) f =
    ap (λ (k : ℕ). up_to k f) (omega arith) ∙ up_to-next (n + m) f ∙ ap (λ (p : List Step). p ++ (f (n + m) ∷ [])) (split n m f)
    ∙ append_assoc (up_to n f) (up_to m (λ i. f (n + i))) (f (n + m) ∷ []) ∙ ap (λ (p : List Step). up_to n f ++ p) (sym (up_to-next m (λ i. f (n + i))))

module _ (t : List ℕ) where
  first-four : up_to 4 (word_to t) ≡ word_to t 0 ∷ (word_to t 1 ∷ (word_to t 2 ∷ (word_to t 3 ∷ [])))
  first-four = rw (up_to-next 3 (word_to t), up_to-next 2 (word_to t), up_to-next 1 (word_to t), up_to-next 0 (word_to t), up_to-none (word_to t)) refl

  pub words-fields : up_to 52 (word_to t) ≡ store_record t
  unfolding store_record word_to settings entered number primary formed_for place_at marks_at store_settings store_entered store_number store_primary store_formed store_place store_marks
  words-fields =
      let first : List Step = word_to t 0 ∷ (word_to t 1 ∷ (word_to t 2 ∷ (word_to t 3 ∷ []))) in
      let formed : List Step = up_to 16 (λ q. word_to t (4 + q)) in
      let places : List Step = up_to 16 (λ i. word_to t (20 + i)) in
      let marks : List Step = up_to 16 (λ i. word_to t (36 + i)) in
      split 36 16 (word_to t) ∙ ap (λ (p : List Step). p ++ marks) (split 20 16 (word_to t)) ∙ ap (λ (p : List Step). (p ++ places) ++ marks) (split 4 16 (word_to t) ∙ ap (λ (p : List Step). p ++ formed) first-four)
      ∙ append_assoc (first ++ formed) places marks ∙ append_assoc first formed (places ++ marks)
