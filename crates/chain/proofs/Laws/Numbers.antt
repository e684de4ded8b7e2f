-- Induction and cases on numbers, and a session by its parts.
use mathlib.Core.Path.{◌≡◌}
use mathlib.Core.Logic.{◌⊎◌, inl, inr, ⊎_elim}
use Prim.Native.Nat.{ℕ, zero, suc, ◌≤◌, ◌<◌}
use native.Mathlib.Nat.{le_refl}
use native.Mathlib.Omega.{arith}
use Rattle.loops.proofs.Laws.Order.{lt-or-ge}
use Rattle.chain.specs.Model.{Sess}

-- what holds of n if it holds of all below n holds of all
pub strong {ℓ} : (P : ℕ → Type ℓ) → ((n : ℕ) → ((m : ℕ) → m < n → P m) → P n) → (n : ℕ) → P n
strong P s n = below (suc n) n (omega arith)
  where
    below : (k m : ℕ) → m < k → P m
    below zero m h = absurd (omega arith)
    below (suc k) m h = s m (λ j d. below k j (omega arith))

-- what falls at no step never falls
pub mono : (f : ℕ → ℕ) → ((t : ℕ) → f t ≤ f (suc t)) → (a b : ℕ) → a ≤ b → f a ≤ f b
mono f s a zero h = let e : a ≡ 0 = omega arith in rw e (le_refl _)
mono f s a (suc b) h = ⊎_elim (λ l. omega (arith, mono f s a b (omega arith), s b)) (λ g. let e : a ≡ suc b = omega arith in rw e (le_refl _)) (lt-or-ge a (suc b))

-- less, equal or more
pub compare : (a b : ℕ) → (a < b) ⊎ ((a ≡ b) ⊎ (b < a))
compare a b = ⊎_elim inl (λ g. inr (⊎_elim inr (λ l. inl (omega arith)) (lt-or-ge b a))) (lt-or-ge a b)

pub same-sess : (S T : Sess) → S.heads ≡ T.heads → S.number ≡ T.number → S ≡ T
same-sess S T p q = λ i. record { heads = p i; number = q i }
