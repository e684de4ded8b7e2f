-- Laws of `first_below`: it is at most the bound, it passes if it is below it, and nothing before it passes. Before index i the state is at most i.
use mathlib.Core.Path.{◌≡◌, sym, ap, ◌∙◌, subst}
use mathlib.Core.Bool.{Bool, true, false}
use mathlib.Core.Logic.{⊎_elim}
use Prim.Native.Nat.{ℕ, zero, suc, ◌≤◌, ◌<◌, zero-le}
use native.Mathlib.Nat.{not-suc-le-zero, lt_irrefl, eq-or-lt_of_le}
use native.Mathlib.Omega.{arith}
use borrow.Author.Tests.{lt-ltb, le-ltb}
use Rattle.loops.specs.Below.{fold_below, first_below}
use Rattle.loops.proofs.Laws.Truth.{passes-or-fails, not-both}
use Rattle.loops.proofs.Laws.Order.{below_suc, lt-or-ge}

-- one more index: found already, found now, or not yet
data Step (n : ℕ) (p : ℕ → Bool) : Type 0 where
  before : first_below n p < n → first_below (suc n) p ≡ first_below n p → Step n p
  here : n ≤ first_below n p → p n ≡ true → first_below (suc n) p ≡ n → Step n p
  later : n ≤ first_below n p → p n ≡ false → first_below (suc n) p ≡ suc n → Step n p

first_step : (n : ℕ) (p : ℕ → Bool) → Step n p
unfolding first_below fold_below
first_step n p =
    ⊎_elim
    (λ l. before l (simp (lt-ltb (first_below n p) n l)))
    (λ g. ⊎_elim
    (λ t. here g t (simp (le-ltb (first_below n p) n g, t)))
    (λ f. later g f (simp (le-ltb (first_below n p) n g, f)))
    (passes-or-fails (p n)))
    (lt-or-ge (first_below n p) n)

pub first-le : (n : ℕ) (p : ℕ → Bool) → first_below n p ≤ n
unfolding first_below fold_below
first-le zero p = zero-le
first-le (suc n) p = go (first_step n p) (first-le n p)
  where
    go : Step n p → first_below n p ≤ n → first_below (suc n) p ≤ suc n
    go (before l e) h = omega arith
    go (here g t e) h = omega arith
    go (later g f e) h = omega arith

pub first_passes : (n : ℕ) (p : ℕ → Bool) → first_below n p < n → p (first_below n p) ≡ true
first_passes zero p h = absurd (not-suc-le-zero h)
first_passes (suc n) p h = go (first_step n p) (first_passes n p)
  where
    go : Step n p → (first_below n p < n → p (first_below n p) ≡ true) → p (first_below (suc n) p) ≡ true
    go (before l e) ih = rw e (ih l)
    go (here g t e) ih = rw e t
    go (later g f e) ih = absurd (lt_irrefl 0 (omega arith))

pub first-before : (n : ℕ) (p : ℕ → Bool) (i : ℕ) → i < first_below n p → p i ≡ false
unfolding first_below fold_below
first-before zero p i h = absurd (not-suc-le-zero h)
first-before (suc n) p i h = go (first_step n p) (first-before n p i)
  where
    go : Step n p → (i < first_below n p → p i ≡ false) → p i ≡ false
    go (before l e) ih = ih (omega arith)
    go (here g t e) ih = ih (omega arith)
    go (later g f e) ih = ⊎_elim (λ q. ap p q ∙ f) (λ l. ih (omega arith)) (below_suc (subst (λ (k : ℕ). i < k) e h))

-- what is found is the first that passes; nothing is found where nothing passes
pub first-is : (n : ℕ) (p : ℕ → Bool) (i : ℕ) → i < n → p i ≡ true → ((j : ℕ) → j < i → p j ≡ false) → first_below n p ≡ i
first-is n p i h t none =
    ⊎_elim (λ l. absurd (not-both (p (first_below n p)) (first_passes n p (omega arith)) (none (first_below n p) l)))
    (λ g. ⊎_elim (λ e. sym e) (λ l. absurd (not-both (p i) t (first-before n p i l))) (eq-or-lt_of_le g))
    (lt-or-ge (first_below n p) i)
