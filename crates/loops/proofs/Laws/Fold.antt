-- Laws of `fold_below` over any state and step, and the one loop lemma, `fold-again`. By induction on the bound.
use mathlib.Core.Path.{◌≡◌, refl, sym, ap, ◌∙◌}
use Prim.Native.Nat.{ℕ, zero, suc, ◌+◌, ◌≤◌, ◌<◌, suc-le-suc}
use native.Mathlib.Nat.{le_refl, le_trans, le-suc}
use native.Mathlib.Numerals.{add-one}
use native.Mathlib.Omega.{arith}
use Rattle.loops.specs.Below.{fold_below}

pub fold-none {ℓ} : {A : Type ℓ} (step : ℕ → A → A) (s : A) → fold_below 0 step s ≡ s
unfolding fold_below
fold-none step s = refl

-- one step more, as a loop takes it
pub fold_next {ℓ} : {A : Type ℓ} (n : ℕ) (step : ℕ → A → A) (s : A) → fold_below (n + 1) step s ≡ step n (fold_below n step s)
unfolding fold_below
fold_next n step s = rw add-one

-- A loop whose state is `fold_below i step s₀` at its head, and whose turn takes the step, has that state at the next head.
pub fold-again {ℓ} : {A : Type ℓ} (step : ℕ → A → A) (s₀ : A) {s s' : A} (i : ℕ) → s ≡ fold_below i step s₀ → s' ≡ step i s → s' ≡ fold_below (i + 1) step s₀
fold-again step s₀ i e e' = e' ∙ ap (step i) e ∙ sym (fold_next i step s₀)

-- at a loop's end
pub fold_end {ℓ} : {A : Type ℓ} (step : ℕ → A → A) (s : A) (i n : ℕ) → i ≤ n → n ≤ i → fold_below i step s ≡ fold_below n step s
fold_end step s i n h k = ap (λ (m : ℕ). fold_below m step s) (omega arith)

-- what each step keeps holds at the end
pub fold-keeps {ℓ κ} : {A : Type ℓ} (P : ℕ → A → Type κ) (n : ℕ) (step : ℕ → A → A) (s : A)
    → P 0 s → ((i : ℕ) (a : A) → i < n → P i a → P (suc i) (step i a)) → P n (fold_below n step s)
unfolding fold_below
fold-keeps P zero step s z k = z
fold-keeps P (suc n) step s z k =
    k n (fold_below n step s) (suc-le-suc (le_refl n)) (fold-keeps P n step s z (λ i a h. k i a (le_trans h (le-suc n))))

-- steps that agree give the same state
pub fold-cong {ℓ} : {A : Type ℓ} (n : ℕ) (f g : ℕ → A → A) (s : A)
    → ((i : ℕ) (a : A) → i < n → f i a ≡ g i a) → fold_below n f s ≡ fold_below n g s
unfolding fold_below
fold-cong zero f g s e = refl
fold-cong (suc n) f g s e =
    ap (f n) (fold-cong n f g s (λ i a h. e i a (le_trans h (le-suc n)))) ∙ e n (fold_below n g s) (le_refl (suc n))
