-- Cases on numbers. The library has no `lt-or-ge` on the native numbers.
use mathlib.Core.Path.{◌≡◌, sym, subst}
use mathlib.Core.Logic.{◌⊎◌, inl, inr, ⊎_elim}
use Prim.Native.Nat.{ℕ, zero, suc, ◌≤◌, ◌<◌, zero-le, suc-le-suc}
use native.Mathlib.Nat.{le_of_suc-le-suc, eq-or-lt_of_le, zero-lt-suc}

-- an index below suc n
pub below_suc : {i n : ℕ} → i < suc n → (i ≡ n) ⊎ (i < n)
below_suc h = eq-or-lt_of_le (le_of_suc-le-suc h)

-- what holds of each index below n, and of n
pub each-suc {ℓ} : {n : ℕ} (P : ℕ → Type ℓ) → ((k : ℕ) → k < n → P k) → P n → (k : ℕ) → k < suc n → P k
each-suc P below here k h = ⊎_elim (λ e. subst P (sym e) here) (below k) (below_suc h)

pub lt-or-ge : (a b : ℕ) → (a < b) ⊎ (b ≤ a)
lt-or-ge a zero = inr zero-le
lt-or-ge zero (suc b) = inl (zero-lt-suc b)
lt-or-ge (suc a) (suc b) = ⊎_elim (λ l. inl (suc-le-suc l)) (λ g. inr (suc-le-suc g)) (lt-or-ge a b)
