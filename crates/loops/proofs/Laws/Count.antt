-- Laws of `count_below` over any test: by induction on the bound, `omega` closes each step from a fact about one Bool.
use mathlib.Core.Path.{◌≡◌, refl, sym, ap}
use mathlib.Core.Bool.{Bool, true, false, ◌&&◌}
use mathlib.Core.Logic.{⊎_elim}
use Prim.Native.Nat.{ℕ, zero, suc, ◌+◌, ◌≤◌, ◌<◌, zero-le}
use native.Mathlib.Nat.{le_refl, le_trans, not-suc-le-zero, le-suc, lt_irrefl}
use native.Mathlib.Omega.{arith}
use Rattle.loops.specs.Below.{fold_below, bit, count_below}
use Rattle.loops.proofs.Laws.Truth.{clash}
use Rattle.loops.proofs.Laws.Order.{below_suc}
use Rattle.loops.proofs.Laws.Fold.{fold-cong}

pub count-suc : (n : ℕ) (p : ℕ → Bool) → count_below (suc n) p ≡ count_below n p + bit (p n)
unfolding count_below fold_below
count-suc n p = refl

-- the same as a loop takes it

pub count-cong : (n : ℕ) (p q : ℕ → Bool) → ((i : ℕ) → i < n → p i ≡ q i) → count_below n p ≡ count_below n q
unfolding count_below fold_below
count-cong n p q e = fold-cong n _ _ 0 (λ i a h. ap (λ (b : Bool). a + bit b) (e i h))

-- the first one apart
pub count-front : (n : ℕ) (p : ℕ → Bool) → count_below (suc n) p ≡ bit (p 0) + count_below n (λ k. p (suc k))
unfolding count_below fold_below
count-front zero p = omega arith
count-front (suc n) p = omega (arith, count-front n p, count-suc (suc n) p, count-suc n (λ k. p (suc k)))

bit_le : (b : Bool) → bit b ≤ 1
bit_le true = le_refl 1
bit_le false = zero-le

pub count-le : (n : ℕ) (p : ℕ → Bool) → count_below n p ≤ n
unfolding count_below fold_below
count-le zero p = zero-le
count-le (suc n) p = omega (arith, count-le n p, bit_le (p n))

bit-mono : (a b : Bool) → (a ≡ true → b ≡ true) → bit a ≤ bit b
bit-mono true true f = le_refl 1
bit-mono true false f = absurd (clash (sym (f refl)))
bit-mono false b f = zero-le

pub count-mono : (n : ℕ) (p q : ℕ → Bool) → ((i : ℕ) → i < n → p i ≡ true → q i ≡ true) → count_below n p ≤ count_below n q
unfolding count_below fold_below
count-mono zero p q f = zero-le
count-mono (suc n) p q f = omega (arith, count-mono n p q (λ i h. f i (le_trans h (le-suc n))), bit-mono (p n) (q n) (f n (le_refl (suc n))))

-- two parts of p that together are larger than p overlap
bit-overlap : (a b c : Bool) → bit (a && b) + bit (a && c) ≤ bit a + bit (b && c)
bit-overlap true true true = le_refl 2
bit-overlap true true false = le_refl 1
bit-overlap true false true = le_refl 1
bit-overlap true false false = zero-le
bit-overlap false b c = zero-le

pub count-overlap : (n : ℕ) (p q r : ℕ → Bool)
    → count_below n (λ i. p i && q i) + count_below n (λ i. p i && r i) ≤ count_below n p + count_below n (λ i. q i && r i)
unfolding count_below fold_below
count-overlap zero p q r = zero-le
count-overlap (suc n) p q r = omega (arith, count-overlap n p q r, bit-overlap (p n) (q n) (r n))

-- a count that is not 0 has one that passes
pub count-find : (n : ℕ) (p : ℕ → Bool) → 0 < count_below n p → (i : ℕ) × (i < n) × (p i ≡ true)
unfolding count_below fold_below
count-find zero p h = absurd (lt_irrefl 0 h)
count-find (suc n) p h = go (p n) refl h (count-find n p)
  where
    go : (b : Bool) → p n ≡ b → 0 < count_below n p + bit b
        → (0 < count_below n p → (i : ℕ) × (i < n) × (p i ≡ true)) → (i : ℕ) × (i < suc n) × (p i ≡ true)
    go true e k rest = (n, le_refl (suc n), e)
    go false e k rest = let r = rest (omega arith) in (r.0, le_trans r.1 (le-suc n), r.2)

pub count-pos : (n : ℕ) (p : ℕ → Bool) (i : ℕ) → i < n → p i ≡ true → 0 < count_below n p
unfolding count_below fold_below
count-pos zero p i h t = absurd (not-suc-le-zero h)
count-pos (suc n) p i h t =
    ⊎_elim
    (λ e. let one : bit (p n) ≡ 1 = rw (← e, t) in omega arith)
    (λ l. omega (arith, count-pos n p i l t))
    (below_suc h)

-- two tests that differ at one index alone, which the first passes: one more
pub count-but-one : (n : ℕ) (p q : ℕ → Bool) (i : ℕ) → i < n → p i ≡ true → q i ≡ false
    → ((k : ℕ) → k < n → (k ≡ i → ⊥) → p k ≡ q k) → count_below n p ≡ count_below n q + 1
unfolding count_below fold_below
count-but-one zero p q i h t f same = absurd (not-suc-le-zero h)
count-but-one (suc n) p q i h t f same =
    ⊎_elim
    (λ e.
    let one : bit (p n) ≡ 1 = rw (← e, t) in
    let none : bit (q n) ≡ 0 = rw (← e, f) in
    omega (arith, count-cong n p q (λ k l. same k (le_trans l (le-suc n)) (λ d. lt_irrefl n (omega arith)))))
    (λ l.
    let last : bit (p n) ≡ bit (q n) = ap bit (same n (le_refl (suc n)) (λ d. lt_irrefl n (omega arith))) in
    omega (arith, count-but-one n p q i l t f (λ k b. same k (le_trans b (le-suc n)))))
    (below_suc h)
