-- Laws of `all_below`, `any_below` and `every`: what a loop over tests takes, and the test as a statement both ways. By induction on the bound.
use mathlib.Core.Path.{◌≡◌, refl, sym, ap, ◌∙◌}
use mathlib.Core.Bool.{Bool, true, false, ◌&&◌, ◌||◌}
use mathlib.Core.Logic.{⊎_elim}
use mathlib.Core.List.{List, [], ◌∷◌, ◌++◌}
use Prim.Native.Nat.{ℕ, zero, suc, ◌+◌, ◌≤◌, ◌<◌}
use native.Mathlib.Nat.{le_refl, le_trans, not-suc-le-zero, le-suc}
use native.Mathlib.Omega.{arith}
use Rattle.loops.specs.Below.{fold_below, all_below, any_below, every}
use Rattle.loops.proofs.Laws.Truth.{and_left, and_right, and_both, or_cases, or_left, or_right, clash}
use Rattle.loops.proofs.Laws.Order.{below_suc}
use Rattle.loops.proofs.Laws.Fold.{fold-none, fold_next, fold-cong}

-- ---- all_below

pub all_none : (p : ℕ → Bool) → all_below 0 p ≡ true
unfolding all_below
all_none p = fold-none (λ i ok. ok && p i) true

pub all-next : (n : ℕ) (p : ℕ → Bool) → all_below (n + 1) p ≡ (all_below n p && p n)
unfolding all_below
all-next n p = fold_next n (λ i ok. ok && p i) true

pub all_end : (p : ℕ → Bool) (i n : ℕ) → i ≤ n → n ≤ i → all_below i p ≡ all_below n p
all_end p i n h k = ap (λ (m : ℕ). all_below m p) (omega arith)

pub all-cong : (n : ℕ) (p q : ℕ → Bool) → ((i : ℕ) → i < n → p i ≡ q i) → all_below n p ≡ all_below n q
unfolding all_below
all-cong n p q e = fold-cong n _ _ true (λ i ok h. ap (λ (b : Bool). ok && b) (e i h))

pub all-at : (n : ℕ) (p : ℕ → Bool) → all_below n p ≡ true → (i : ℕ) → i < n → p i ≡ true
unfolding all_below fold_below
all-at zero p t i h = absurd (not-suc-le-zero h)
all-at (suc n) p t i h =
    ⊎_elim (λ e. ap p e ∙ and_right (all_below n p) (p n) t) (λ l. all-at n p (and_left (all_below n p) (p n) t) i l) (below_suc h)

pub all_of : (n : ℕ) (p : ℕ → Bool) → ((i : ℕ) → i < n → p i ≡ true) → all_below n p ≡ true
unfolding all_below fold_below
all_of zero p f = refl
all_of (suc n) p f = and_both (all_below n p) (p n) (all_of n p (λ i h. f i (le_trans h (le-suc n)))) (f n (le_refl (suc n)))

-- as a loop that takes every test goes
pub all-again : (p : ℕ → Bool) {a b : Bool} (i : ℕ) → a ≡ all_below i p → b ≡ p i → (a && b) ≡ all_below (i + 1) p
all-again p i e f = rw (all-next i p, e, f)

-- ---- any_below

pub any_none : (p : ℕ → Bool) → any_below 0 p ≡ false
unfolding any_below
any_none p = fold-none (λ i found. found || p i) false

pub any_next : (n : ℕ) (p : ℕ → Bool) → any_below (n + 1) p ≡ (any_below n p || p n)
unfolding any_below
any_next n p = fold_next n (λ i found. found || p i) false

pub any-find : (n : ℕ) (p : ℕ → Bool) → any_below n p ≡ true → (i : ℕ) × (i < n) × (p i ≡ true)
unfolding any_below fold_below
any-find zero p t = absurd (clash (sym t))
any-find (suc n) p t =
    ⊎_elim (λ a. let r = any-find n p a in (r.0, le_trans r.1 (le-suc n), r.2)) (λ b. (n, le_refl (suc n), b)) (or_cases (any_below n p) (p n) t)

pub any_of : (n : ℕ) (p : ℕ → Bool) (i : ℕ) → i < n → p i ≡ true → any_below n p ≡ true
unfolding any_below fold_below
any_of zero p i h t = absurd (not-suc-le-zero h)
any_of (suc n) p i h t =
    ⊎_elim
    (λ e. or_right (any_below n p) (p n) (ap p (sym e) ∙ t))
    (λ l. or_left (any_below n p) (p n) (any_of n p i l t))
    (below_suc h)

-- ---- every

pub every_append : {A : Type 0} (p : A → Bool) (a b : List A) → every p (a ++ b) ≡ (every p a && every p b)
unfolding every
every_append p [] b = refl
every_append p (x ∷ a) b = ap (λ (t : Bool). p x && t) (every_append p a b) ∙ and_assoc (p x) (every p a) (every p b)
  where
    and_assoc : (x y z : Bool) → (x && (y && z)) ≡ ((x && y) && z)
    and_assoc true y z = refl
    and_assoc false y z = refl
