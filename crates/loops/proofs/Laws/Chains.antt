-- What a chain of iterators makes of a list is the recursion over its indexes. By induction on how many elements are taken: each takes one more.
-- `q i` is what is asked or made of the element at index i, so that one law serves a list, a list of indexes and a list with its indexes.
use mathlib.Core.Path.{◌≡◌, refl, sym, ap, ◌∙◌, subst}
use mathlib.Core.Bool.{Bool, true, false, ◌&&◌, ◌||◌}
use mathlib.Core.List.{List, [], ◌∷◌}
use mathlib.Core.Logic.{⊎_elim}
use Prim.Native.Nat.{ℕ, zero, suc, ◌+◌, ◌≤◌, ◌<◌, zero-le}
use native.Mathlib.Nat.{le_refl, le_trans, le-suc, lt_irrefl, eq-or-lt_of_le}
use native.Mathlib.Numerals.{add-one}
use native.Mathlib.Omega.{arith}
use denote.Param.Members.{Mut, Called}
use lib.ListN.{length, get_or, take}
use lib.Seq.{take-length}
use lib.Dec.{leb, ltb}
use borrow.Author.Tests.{lt-ltb, le-ltb, lt-leb, le-leb}
use Rattle.std.specs.List.{list_all, list_any, count_by, position_or_len, fold, range_with_len, enumerate_from}
use Rattle.std.specs.Array.{IsFromFnResult, IsFromFnResultFrom}
use Rattle.std.proofs.lemmas.List.{take_more, length-take, get_or-take}
use Rattle.std.proofs.lemmas.List.Folds.{list_all_more, list_any_more}
use Rattle.std.proofs.lemmas.List.Sums.{fold-append, count_by_more_yes, count_by_more_no, position_or_len_is}
use Rattle.std.proofs.lemmas.List.FromFn.{length-range_with_len, get_or-range_with_len, length-enumerate_from, get_or-enumerate_from}
use Rattle.loops.specs.Below.{fold_below, all_below, any_below, count_below, first_below, table, bit}
use Rattle.loops.proofs.Laws.Truth.{passes-or-fails, test-ext, not-both, or_left}
use Rattle.loops.proofs.Laws.Order.{lt-or-ge}
use Rattle.loops.proofs.Laws.Fold.{fold-none, fold_next}
use Rattle.loops.proofs.Laws.Tests.{all_none, all-next, all-at, all_of, any_none, any_next, any-find, any_of}
use Rattle.loops.proofs.Laws.First.{first-le, first-before, first_passes}
use Rattle.loops.proofs.Laws.Lists.{table_is}

-- ---- a fold

fold-front : {A B : Type 0} (f : B → A → B) (step : ℕ → B → B) (b : B) (xs : List A) (d : A) (n : ℕ)
    → n ≤ length xs → ((i : ℕ) (s : B) → i < n → f s (get_or xs i d) ≡ step i s) → fold f b (take n xs) ≡ fold_below n step b
fold-front f step b xs d zero h e = sym (fold-none step b)
fold-front f step b xs d (suc n) h e =
    subst (λ m. fold f b (take m xs) ≡ fold_below m step b) (add-one n)
    (ap (fold f b) (take_more xs n d h)
    ∙ fold-append f b (take n xs) (get_or xs n d ∷ [])
    ∙ ap (λ s. f s (get_or xs n d)) (fold-front f step b xs d n (le_trans (le-suc n) h) (λ i s k. e i s (le_trans k (le-suc n))))
    ∙ e n (fold_below n step b) (le_refl (suc n))
    ∙ sym (fold_next n step b))

pub fold-chain : {A B : Type 0} (f : B → A → B) (step : ℕ → B → B) (b : B) (xs : List A) (d : A) (n : ℕ)
    → length xs ≡ n → ((i : ℕ) (s : B) → i < n → f s (get_or xs i d) ≡ step i s) → fold f b xs ≡ fold_below n step b
fold-chain f step b xs d n h e = ap (fold f b) (sym (take-length xs) ∙ ap (λ k. take k xs) h) ∙ fold-front f step b xs d n (omega arith) e

-- ---- tests

pub all-front : {A : Type 0} (p : A → Bool) (q : ℕ → Bool) (xs : List A) (d : A) (n : ℕ)
    → n ≤ length xs → ((i : ℕ) → i < n → p (get_or xs i d) ≡ q i) → list_all p (take n xs) ≡ all_below n q
all-front p q xs d zero h e = sym (all_none q)
all-front p q xs d (suc n) h e =
    subst (λ m. list_all p (take m xs) ≡ all_below m q) (add-one n)
    (list_all_more p xs n d h
    ∙ rw (all-front p q xs d n (le_trans (le-suc n) h) (λ i k. e i (le_trans k (le-suc n))), e n (le_refl (suc n))) (sym (all-next n q)))

pub all-chain : {A : Type 0} (p : A → Bool) (q : ℕ → Bool) (xs : List A) (d : A) (n : ℕ)
    → length xs ≡ n → ((i : ℕ) → i < n → p (get_or xs i d) ≡ q i) → list_all p xs ≡ all_below n q
all-chain p q xs d n h e = ap (list_all p) (sym (take-length xs) ∙ ap (λ k. take k xs) h) ∙ all-front p q xs d n (omega arith) e

any-front : {A : Type 0} (p : A → Bool) (q : ℕ → Bool) (xs : List A) (d : A) (n : ℕ)
    → n ≤ length xs → ((i : ℕ) → i < n → p (get_or xs i d) ≡ q i) → list_any p (take n xs) ≡ any_below n q
any-front p q xs d zero h e = sym (any_none q)
any-front p q xs d (suc n) h e =
    subst (λ m. list_any p (take m xs) ≡ any_below m q) (add-one n)
    (list_any_more p xs n d h
    ∙ rw (any-front p q xs d n (le_trans (le-suc n) h) (λ i k. e i (le_trans k (le-suc n))), e n (le_refl (suc n))) (sym (any_next n q)))

pub any-chain : {A : Type 0} (p : A → Bool) (q : ℕ → Bool) (xs : List A) (d : A) (n : ℕ)
    → length xs ≡ n → ((i : ℕ) → i < n → p (get_or xs i d) ≡ q i) → list_any p xs ≡ any_below n q
any-chain p q xs d n h e = ap (list_any p) (sym (take-length xs) ∙ ap (λ k. take k xs) h) ∙ any-front p q xs d n (omega arith) e

-- ---- a count

count-front : {A : Type 0} (p : A → Bool) (q : ℕ → Bool) (xs : List A) (d : A) (n : ℕ)
    → n ≤ length xs → ((i : ℕ) → i < n → p (get_or xs i d) ≡ q i) → count_by p (take n xs) ≡ count_below n q
unfolding count_below
count-front p q xs d zero h e = sym (fold-none (λ i c. c + bit (q i)) 0)
count-front p q xs d (suc n) h e =
    let before = count-front p q xs d n (le_trans (le-suc n) h) (λ i k. e i (le_trans k (le-suc n))) in
    subst (λ m. count_by p (take m xs) ≡ fold_below m (λ i c. c + bit (q i)) 0) (add-one n)
    (⊎_elim
    (λ t. count_by_more_yes p xs n d h (e n (le_refl (suc n)) ∙ t) ∙ rw (before, fold_next n (λ i c. c + bit (q i)) 0, t) refl)
    (λ f. count_by_more_no p xs n d h (e n (le_refl (suc n)) ∙ f) ∙ rw (before, fold_next n (λ i c. c + bit (q i)) 0, f) (omega arith))
    (passes-or-fails (q n)))

pub count-chain : {A : Type 0} (p : A → Bool) (q : ℕ → Bool) (xs : List A) (d : A) (n : ℕ)
    → length xs ≡ n → ((i : ℕ) → i < n → p (get_or xs i d) ≡ q i) → count_by p xs ≡ count_below n q
count-chain p q xs d n h e = ap (count_by p) (sym (take-length xs) ∙ ap (λ k. take k xs) h) ∙ count-front p q xs d n (omega arith) e

-- ---- a chain over the first `count` elements, where there may be fewer

pub any-short : (q r : ℕ → Bool) (k n : ℕ) → k ≤ n → ((i : ℕ) → i < k → q i ≡ r i) → ((i : ℕ) → k ≤ i → i < n → r i ≡ false) → any_below k q ≡ any_below n r
any-short q r k n h e f =
    test-ext _ _
    (λ t. let at = any-find k q t in any_of n r at.0 (omega (arith, at.1)) (sym (e at.0 at.1) ∙ at.2))
    (λ t. let at = any-find n r t in
    ⊎_elim (λ (l : at.0 < k). any_of k q at.0 l (e at.0 l ∙ at.2)) (λ (g : k ≤ at.0). absurd (not-both _ at.2 (f at.0 g at.1))) (lt-or-ge at.0 k))

pub all-short : (q r : ℕ → Bool) (k n : ℕ) → k ≤ n → ((i : ℕ) → i < k → q i ≡ r i) → ((i : ℕ) → k ≤ i → i < n → r i ≡ true) → all_below k q ≡ all_below n r
all-short q r k n h e f =
    test-ext _ _
    (λ t. all_of n r (λ i b. ⊎_elim (λ (l : i < k). sym (e i l) ∙ all-at k q t i l) (λ (g : k ≤ i). f i g b) (lt-or-ge i k)))
    (λ t. all_of k q (λ i l. e i l ∙ all-at n r t i (omega arith)))

pub any-taken : {A : Type 0} (p : A → Bool) (count : ℕ) (xs : List A) (d : A) (n : ℕ)
    → length xs ≡ n → list_any p (take count xs) ≡ any_below n (λ i. ltb i count && p (get_or xs i d))
any-taken p count xs d n h =
    any-chain p (λ i. p (get_or (take count xs) i d)) (take count xs) d _ refl (λ i k. refl)
    ∙ any-short _ _ (length (take count xs)) n (omega (arith, length-take count xs))
    (λ i k. let l : i < count = omega (arith, length-take count xs) in rw (get_or-take count xs i d l, lt-ltb i count l))
    (λ i g k. rw (le-ltb i count (omega (arith, length-take count xs))))

pub all-taken : {A : Type 0} (p : A → Bool) (count : ℕ) (xs : List A) (d : A) (n : ℕ)
    → length xs ≡ n → list_all p (take count xs) ≡ all_below n (λ i. leb count i || p (get_or xs i d))
all-taken p count xs d n h =
    all-chain p (λ i. p (get_or (take count xs) i d)) (take count xs) d _ refl (λ i k. refl)
    ∙ all-short _ _ (length (take count xs)) n (omega (arith, length-take count xs))
    (λ i k. let l : i < count = omega (arith, length-take count xs) in rw (get_or-take count xs i d l, lt-leb count i l))
    (λ i g k. or_left _ _ (le-leb count i (omega (arith, length-take count xs))))

-- ---- the first that passes

pub first-chain : {A : Type 0} (p : A → Bool) (q : ℕ → Bool) (xs : List A) (d : A) (n : ℕ)
    → length xs ≡ n → ((i : ℕ) → i < n → p (get_or xs i d) ≡ q i) → position_or_len p xs ≡ first_below n q
first-chain p q xs d n h e =
    position_or_len_is p xs (first_below n q) d (omega (arith, first-le n q))
    (λ k l. e k (omega (arith, first-le n q)) ∙ first-before n q k l)
    (λ l. e (first_below n q) (omega arith) ∙ first_passes n q (omega arith))

-- ---- an index of a list of indexes, and an element with its index

index-at : (n i : ℕ) → i < n → get_or (range_with_len 0 n) i 0 ≡ i
index-at n i h = get_or-range_with_len 0 n i 0 h ∙ omega arith

pair-at : {A : Type 0} (xs : List A) (i : ℕ) (d : A) → i < length xs → get_or (enumerate_from 0 xs) i (0, d) ≡ (i, get_or xs i d)
pair-at xs i d h = get_or-enumerate_from 0 xs i (0, d) h ∙ ap (λ (k : ℕ). (k, get_or xs i d)) (omega arith)

-- ---- the same where the chain goes over indexes, or over elements with their indexes

pub all-range : (p q : ℕ → Bool) (n : ℕ) → ((i : ℕ) → i < n → p i ≡ q i) → list_all p (range_with_len 0 n) ≡ all_below n q
all-range p q n e = all-chain p q (range_with_len 0 n) 0 n (length-range_with_len 0 n) (λ i h. ap p (index-at n i h) ∙ e i h)

pub all-enumerate : {A : Type 0} (p : ℕ × A → Bool) (q : ℕ → Bool) (xs : List A) (d : A) (n : ℕ)
    → length xs ≡ n → ((i : ℕ) → i < n → p (i, get_or xs i d) ≡ q i) → list_all p (enumerate_from 0 xs) ≡ all_below n q
all-enumerate p q xs d n h e =
    all-chain p q (enumerate_from 0 xs) (0, d) n (length-enumerate_from 0 xs ∙ h) (λ i k. ap p (pair-at xs i d (omega arith)) ∙ e i k)

pub any-enumerate : {A : Type 0} (p : ℕ × A → Bool) (q : ℕ → Bool) (xs : List A) (d : A) (n : ℕ)
    → length xs ≡ n → ((i : ℕ) → i < n → p (i, get_or xs i d) ≡ q i) → list_any p (enumerate_from 0 xs) ≡ any_below n q
any-enumerate p q xs d n h e =
    any-chain p q (enumerate_from 0 xs) (0, d) n (length-enumerate_from 0 xs ∙ h) (λ i k. ap p (pair-at xs i d (omega arith)) ∙ e i k)

pub fold-enumerate : {A B : Type 0} (f : B → ℕ × A → B) (step : ℕ → B → B) (b : B) (xs : List A) (d : A) (n : ℕ)
    → length xs ≡ n → ((i : ℕ) (s : B) → i < n → f s (i, get_or xs i d) ≡ step i s) → fold f b (enumerate_from 0 xs) ≡ fold_below n step b
fold-enumerate f step b xs d n h e =
    fold-chain f step b (enumerate_from 0 xs) (0, d) n (length-enumerate_from 0 xs ∙ h)
    (λ i s k. ap (f s) (pair-at xs i d (omega arith)) ∙ e i s k)

-- ---- a list that a chain makes

-- an array made by a call at each index, where every call leaves the closure as it was

from_fn-at : {F B : Type 0} (g : Mut F (ℕ × Unit {0}) B) (f : ℕ → B) (s : F) (ys : List B) (d : B) (i n : ℕ)
    → IsFromFnResultFrom g s ys i n → ((k : ℕ) (r : B) (q : F) → Called g s (k, tt) r q → (q ≡ s) × (r ≡ f k))
    → (k : ℕ) → i ≤ k → k < i + n → get_or ys k d ≡ f k
from_fn-at g f s ys d i zero made e k low high = absurd (lt_irrefl i (omega arith))
from_fn-at {F = F} g f s ys d i (suc n) (q, y, at, called, rest) e k low high =
    let told = e i y q called in
    ⊎_elim
    (λ (here : i ≡ k). ap (λ j. get_or ys j d) (sym here) ∙ at.1 d ∙ told.1 ∙ ap f here)
    (λ (later : i < k). from_fn-at g f s ys d (i + 1) n (subst (λ (p : F). IsFromFnResultFrom g p ys (i + 1) n) told.0 rest) e k (omega arith) (omega arith))
    (eq-or-lt_of_le low)

pub from_fn-table : {F B : Type 0} (g : Mut F (ℕ × Unit {0}) B) (f : ℕ → B) (d : B) (n : ℕ) {s : F} {ys : List B}
    → IsFromFnResult g s ys n → ((k : ℕ) (r : B) (q : F) → Called g s (k, tt) r q → (q ≡ s) × (r ≡ f k)) → ys ≡ table n f
from_fn-table g f d n {s = s} {ys = ys} made e = table_is n f d ys made.long (λ i h. from_fn-at g f s ys d 0 n made.each e i zero-le (omega arith))
