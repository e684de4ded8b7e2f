-- Laws of one store: by cases on the pen.
use mathlib.Core.Bool.{Bool, true, false, cond}
use mathlib.Core.Path.{◌≡◌, refl, sym, ap, ◌∙◌}
use mathlib.Core.List.{List, [], ◌∷◌}
use Prim.Native.Nat.{ℕ, zero, suc, ◌≤◌, ◌<◌}
use native.Mathlib.Omega.{arith}
use lib.Dec.{eqb}
use lib.ListN.{get_or, set, length, length-set}
use lib.Seq.{get_or-set_same, get_or-set_other, set-get_or}
use borrow.Author.Tests.{eq-eqb, eqb-true}
use Rattle.store.specs.declared.Pen.{Pen}
use Rattle.store.specs.declared.Pen.TheVariants.{Left, Cut}
use Rattle.store.specs.Desk.{Store, Desk, desk, stored, is_cut, put_at, put_to, apply, store_if, differs, where_changed, diff_if}

-- ---- the record with a word stored

pub stored-length : (s : Store) (r : List ℕ) → length (stored s r) ≡ length r
unfolding stored
stored-length s r = length-set r s.at s.word

pub stored_here : (s : Store) (r : List ℕ) → s.at < length r → get_or (stored s r) s.at 0 ≡ s.word
unfolding stored
stored_here s r h = get_or-set_same r s.at s.word 0 h

pub stored_there : (s : Store) (r : List ℕ) (k : ℕ) → (k ≡ s.at → ⊥) → get_or (stored s r) k 0 ≡ get_or r k 0
unfolding stored
stored_there s r k h = get_or-set_other r s.at k s.word 0 h

-- where the word is there already the store changes nothing
pub stored_same : (s : Store) (r : List ℕ) → get_or r s.at 0 ≡ s.word → stored s r ≡ r
unfolding stored
stored_same s r e = sym (ap (set r s.at) e) ∙ set-get_or r s.at 0

-- ---- under a pen

put-cut' : (p : Pen) (s : Store) (r : List ℕ) → is_cut p ≡ true → put_at p s r ≡ desk r p
put-cut' Cut s r e = refl
put-cut' (Left n) s r e = cc

pub put-cut : (s : Store) (d : Desk) → is_cut d.pen ≡ true → put_to s d ≡ d
unfolding put_to
put-cut s d e = put-cut' d.pen s d.rec e

put-length' : (p : Pen) (s : Store) (r : List ℕ) → length (put_at p s r).rec ≡ length r
put-length' Cut s r = refl
put-length' (Left zero) s r = refl
put-length' (Left (suc n)) s r = stored-length s r

pub put-length : (s : Store) (d : Desk) → length (put_to s d).rec ≡ length d.rec
unfolding put_to
put-length s d = put-length' d.pen s d.rec

-- ---- with no pen

pub apply-one : (s : Store) (r : List ℕ) → apply (s ∷ []) r ≡ stored s r
unfolding apply
apply-one s r = refl

pub apply-store_if : (c : Bool) (s : Store) (r : List ℕ) → apply (store_if c s) r ≡ cond c (stored s r) r
unfolding apply store_if
apply-store_if true s r = refl
apply-store_if false s r = refl

apply-differs : (b : Bool) (s : Store) (r : List ℕ) → eqb (get_or r s.at 0) s.word ≡ b → apply (differs b s) r ≡ stored s r
unfolding apply
apply-differs true s r e = sym (stored_same s r (eqb-true (get_or r s.at 0) s.word e))
apply-differs false s r e = refl

pub apply-diff : (s : Store) (r : List ℕ) → apply (where_changed s r) r ≡ stored s r
unfolding where_changed
apply-diff s r = apply-differs (eqb (get_or r s.at 0) s.word) s r refl

pub apply-diff_if : (c : Bool) (s : Store) (r : List ℕ) → apply (diff_if c s r) r ≡ cond c (stored s r) r
unfolding diff_if apply
apply-diff_if true s r = apply-diff s r
apply-diff_if false s r = refl

-- no store where the word is there already
pub diff_if-none : (c : Bool) (s : Store) (r : List ℕ) → (c ≡ true → get_or r s.at 0 ≡ s.word) → diff_if c s r ≡ []
unfolding diff_if where_changed
diff_if-none true s r h = rw (eq-eqb (get_or r s.at 0) s.word (h refl))
diff_if-none false s r h = refl

differs-short : (b : Bool) (s : Store) → length (differs b s) ≤ 1
differs-short true s = omega arith
differs-short false s = omega arith

pub diff_if-short : (c : Bool) (s : Store) (r : List ℕ) → length (diff_if c s r) ≤ 1
unfolding diff_if where_changed
diff_if-short true s r = differs-short (eqb (get_or r s.at 0) s.word) s
diff_if-short false s r = omega arith
