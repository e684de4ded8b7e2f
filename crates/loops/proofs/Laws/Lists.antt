-- Laws of `table` and `collect`: a list by its indexes, and lists one after the other. By induction on the bound.
use mathlib.Core.Path.{◌≡◌, refl, sym, ap, ◌∙◌, subst}
use mathlib.Core.Bool.{Bool, cond}
use mathlib.Core.Logic.{⊎_elim}
use mathlib.Core.List.{List, [], ◌++◌}
use Prim.Native.Nat.{ℕ, zero, suc, ◌+◌, ◌≤◌, ◌<◌, zero-le}
use native.Mathlib.Nat.{le_of_suc-le-suc, not-suc-le-zero, lt_irrefl, eq-or-lt_of_le}
use native.Mathlib.Omega.{arith}
use lib.Dec.{ltb}
use lib.ListN.{length, get_or, set, replicate, length-set, length-replicate, get_or-replicate}
use lib.Seq.{get_or-set_same, get_or-set_other, ext_get_or}
use borrow.Author.Tests.{lt-ltb, le-ltb}
use Rattle.loops.specs.Below.{collect, table}
use Rattle.loops.proofs.Laws.Order.{lt-or-ge}
use Rattle.loops.proofs.Laws.Fold.{fold-none, fold_next, fold-cong}

-- ---- table

pub length-table {ℓ} : {A : Type ℓ} (n : ℕ) (f : ℕ → A) → length (table n f) ≡ n
unfolding table
length-table zero f = refl
length-table (suc n) f = ap suc (length-table n (λ k. f (suc k)))

pub get_d-table {ℓ} : {A : Type ℓ} (n : ℕ) (f : ℕ → A) (i : ℕ) (d : A) → i < n → get_or (table n f) i d ≡ f i
unfolding table
get_d-table zero f i d h = absurd (not-suc-le-zero h)
get_d-table (suc n) f zero d h = refl
get_d-table (suc n) f (suc i) d h = get_d-table n (λ k. f (suc k)) i d (le_of_suc-le-suc h)

-- a list is a table if it has its length and its elements
pub table_is {ℓ} : {A : Type ℓ} (n : ℕ) (f : ℕ → A) (d : A) (l : List A) → length l ≡ n → ((i : ℕ) → i < n → get_or l i d ≡ f i) → l ≡ table n f
table_is n f d l e at =
    ext_get_or d l (table n f) (e ∙ sym (length-table n f))
    (λ i h. let k = subst (λ (m : ℕ). i < m) e h in at i k ∙ sym (get_d-table n f i d k))

-- a table filled from the front, as a loop that stores `f i` at i goes: none yet, one more, all

pub fill_none {ℓ} : {A : Type ℓ} (n : ℕ) (f : ℕ → A) (d : A) → replicate n d ≡ table n (λ j. cond (ltb j 0) (f j) d)
fill_none n f d =
    table_is n _ d (replicate n d) (length-replicate n d) (λ i h. get_or-replicate n i d d h ∙ sym (ap (λ (b : Bool). cond b (f i) d) (le-ltb i 0 zero-le)))

pub fill_more {ℓ} : {A : Type ℓ} (n : ℕ) (f : ℕ → A) (d : A) (i : ℕ) → i < n
    → set (table n (λ j. cond (ltb j i) (f j) d)) i (f i) ≡ table n (λ j. cond (ltb j (i + 1)) (f j) d)
fill_more {A = A} n f d i h =
    table_is n _ d (set before i (f i)) (length-set before i (f i) ∙ length-table n _)
    (λ k b.
    ⊎_elim
    (λ l. other k b (λ e. lt_irrefl i (omega arith)) (lt-ltb k i l ∙ sym (lt-ltb k (i + 1) (omega arith))))
    (λ g.
    ⊎_elim
    (λ e. rw (← e) here)
    (λ l. other k b (λ e. lt_irrefl i (omega arith)) (le-ltb k i g ∙ sym (le-ltb k (i + 1) (omega arith))))
    (eq-or-lt_of_le g))
    (lt-or-ge k i))
  where
    before : List A
    before = table n (λ j. cond (ltb j i) (f j) d)

    here : get_or (set before i (f i)) i d ≡ cond (ltb i (i + 1)) (f i) d
    here =
        get_or-set_same before i (f i) d (omega (arith, length-table n (λ j. cond (ltb j i) (f j) d)))
        ∙ sym (ap (λ (t : Bool). cond t (f i) d) (lt-ltb i (i + 1) (omega arith)))

    other : (k : ℕ) → k < n → (k ≡ i → ⊥) → ltb k i ≡ ltb k (i + 1) → get_or (set before i (f i)) k d ≡ cond (ltb k (i + 1)) (f k) d
    other k b u e = get_or-set_other before i k (f i) d u ∙ get_d-table n _ k d b ∙ ap (λ (t : Bool). cond t (f k) d) e

-- the turn of such a loop
pub fill-again {ℓ} : {A : Type ℓ} (n : ℕ) (f : ℕ → A) (d : A) {l : List A} {x : A} (i : ℕ) → i < n → l ≡ table n (λ j. cond (ltb j i) (f j) d) → x ≡ f i
    → set l i x ≡ table n (λ j. cond (ltb j (i + 1)) (f j) d)
fill-again n f d i h e e' = rw (e, e') (fill_more n f d i h)

pub fill-all {ℓ} : {A : Type ℓ} (n : ℕ) (f : ℕ → A) (d : A) (i : ℕ) → n ≤ i → table n (λ j. cond (ltb j i) (f j) d) ≡ table n f
fill-all n f d i h =
    table_is n f d (table n _) (length-table n _) (λ k b. get_d-table n _ k d b ∙ ap (λ (t : Bool). cond t (f k) d) (lt-ltb k i (omega arith)))

-- ---- collect

pub collect-none {ℓ} : {A : Type ℓ} (part : ℕ → List A) → collect 0 part ≡ []
unfolding collect
collect-none part = fold-none (λ i l. l ++ part i) []

pub collect-next {ℓ} : {A : Type ℓ} (n : ℕ) (part : ℕ → List A) → collect (n + 1) part ≡ collect n part ++ part n
unfolding collect
collect-next n part = fold_next n (λ i l. l ++ part i) []

pub collect-end {ℓ} : {A : Type ℓ} (part : ℕ → List A) (i n : ℕ) → i ≤ n → n ≤ i → collect i part ≡ collect n part
collect-end part i n h k = ap (λ (m : ℕ). collect m part) (omega arith)

pub collect-cong {ℓ} : {A : Type ℓ} (n : ℕ) (f g : ℕ → List A) → ((i : ℕ) → i < n → f i ≡ g i) → collect n f ≡ collect n g
unfolding collect
collect-cong {A = A} n f g e = fold-cong n _ _ [] (λ i a h. ap (λ (b : List A). a ++ b) (e i h))
