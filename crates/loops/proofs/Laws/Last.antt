-- Laws of `last_below`. By induction on the bound; one more index either passes, and is the last, or changes nothing.
use mathlib.Core.Path.{◌≡◌, refl, sym, ap, ◌∙◌}
use mathlib.Core.Bool.{Bool, true, false, cond}
use mathlib.Core.Logic.{⊎_elim}
use Prim.Native.Nat.{ℕ, zero, suc, ◌+◌, ◌<◌}
use native.Mathlib.Nat.{le_refl, le_trans, not-suc-le-zero, le-suc, lt_irrefl}
use native.Mathlib.Omega.{arith}
use Rattle.loops.specs.Below.{fold_below, bit, count_below, last_below}
use Rattle.loops.proofs.Laws.Truth.{fails-if}
use Rattle.loops.proofs.Laws.Order.{below_suc}

pub last-is : (n : ℕ) (p : ℕ → Bool) (j : ℕ) → j < n → p j ≡ true → ((i : ℕ) → j < i → i < n → p i ≡ true → ⊥) → last_below n p ≡ j
unfolding last_below fold_below
last-is zero p j h t none = absurd (not-suc-le-zero h)
last-is (suc n) p j h t none =
    ⊎_elim
    (λ e. let last : p n ≡ true = ap p (sym e) ∙ t in simp last (sym e))
    (λ l. simp (fails-if (p n) (none n l (le_refl (suc n)))) (last-is n p j l t (λ i a b. none i a (le_trans b (le-suc n)))))
    (below_suc h)

pub last-member : (n : ℕ) (p : ℕ → Bool) → 0 < count_below n p → (last_below n p < n) × (p (last_below n p) ≡ true)
unfolding last_below count_below fold_below
last-member zero p h = absurd (lt_irrefl 0 h)
last-member (suc n) p h = go (p n) refl h (last-member n p)
  where
    go : (b : Bool) → p n ≡ b → 0 < count_below n p + bit b
        → (0 < count_below n p → (last_below n p < n) × (p (last_below n p) ≡ true)) → (cond b n (last_below n p) < suc n) × (p (cond b n (last_below n p)) ≡ true)
    go true e k rest = (le_refl (suc n), e)
    go false e k rest = let r = rest (omega arith) in (le_trans r.0 (le-suc n), r.1)
