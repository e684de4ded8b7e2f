-- No head above the highest member is a member, so a loop over the members may end there: what it has computed is what it would compute of all heads.
use mathlib.Core.Path.{◌≡◌, sym, ◌∙◌}
use mathlib.Core.Bool.{Bool, false, cond}
use mathlib.Core.Logic.{⊎_elim}
use mathlib.Core.List.{List}
use Prim.Native.Nat.{ℕ, zero, suc, ◌≤◌, ◌<◌, ◌^◌, max}
use native.Mathlib.Nat.{not-suc-le-zero}
use native.Mathlib.Omega.{arith}
use borrow.Author.Tests.{le-ltb}
use lib.Dec.{ltb}
use Rattle.loops.specs.Below.{fold_below, last_below}
use Rattle.loops.proofs.Laws.Truth.{passes-or-fails}
use Rattle.loops.proofs.Laws.Order.{below_suc, lt-or-ge}
use Rattle.group.specs.Heads.{has, highest}
use Rattle.group.specs.Words.{rank}
use Rattle.group.proofs.Laws.Heads.{has-high}
use Rattle.group.proofs.Laws.Words.{rank-none}
use Rattle.state.specs.declared.Held.{Held}
use Rattle.plan.specs.Attempt.{number_of, primary_of}

above-last : (n : ℕ) (p : ℕ → Bool) (i : ℕ) → last_below n p < i → i < n → p i ≡ false
unfolding last_below fold_below
above-last zero p i a b = absurd (not-suc-le-zero b)
above-last (suc n) p i a b =
    ⊎_elim
    (λ t. absurd (omega (arith, rw t at a)))
    (λ f. ⊎_elim (λ e. rw e f) (λ l. above-last n p i (rw f at a) l) (below_suc b))
    (passes-or-fails (p n))

last-le : (n : ℕ) (p : ℕ → Bool) → last_below n p ≤ n
unfolding last_below fold_below
last-le zero p = omega arith
last-le (suc n) p = ⊎_elim (λ t. rw t (omega arith)) (λ f. rw f (omega (arith, last-le n p))) (passes-or-fails (p n))

last-lt : (n : ℕ) (p : ℕ → Bool) → last_below (suc n) p < suc n
unfolding last_below fold_below
last-lt n p = ⊎_elim (λ t. rw t (omega arith)) (λ f. rw f (omega (arith, last-le n p))) (passes-or-fails (p n))

pub highest-lt : (m : ℕ) → highest m < 16
unfolding highest
highest-lt m = last-lt 15 (has m)

pub above-highest : (m q : ℕ) → m < 2 ^ 16 → highest m < q → has m q ≡ false
unfolding highest
above-highest m q b l = ⊎_elim (λ h. above-last 16 (has m) q l h) (λ h. has-high 16 m q b h) (lt-or-ge q 16)

-- steps that change nothing from z on
fold_stays : (n z : ℕ) (step : ℕ → ℕ → ℕ) (s : ℕ) → z ≤ n → ((i a : ℕ) → z ≤ i → step i a ≡ a) → fold_below z step s ≡ fold_below n step s
unfolding fold_below
fold_stays zero z step s h k = let e : z ≡ 0 = omega arith in rw e
fold_stays (suc n) z step s h k =
    ⊎_elim
    (λ l. fold_stays n z step s (omega arith) k ∙ sym (k n (fold_below n step s) (omega arith)))
    (λ g. let e : z ≡ suc n = omega arith in rw e)
    (lt-or-ge z (suc n))

module _ (m z : ℕ) (held : Held) (r : List ℕ) (none : (q : ℕ) → z ≤ q → has m q ≡ false) where
  no_number : (q : ℕ) → z ≤ q → number_of m held r q ≡ 0
  unfolding number_of
  no_number q h = rw (none q h)

  no-primary : (q : ℕ) → z ≤ q → primary_of m held r q ≡ 0
  unfolding primary_of
  no-primary q h = rw (none q h)

  pub numbers-end : z ≤ 16 → fold_below z (λ q n. max n (number_of m held r q)) 0 ≡ fold_below 16 (λ q n. max n (number_of m held r q)) 0
  numbers-end h = fold_stays 16 z _ 0 h (λ i a l. rw (no_number i l) (omega arith))

  pub primaries-end : z ≤ 16
      → fold_below z (λ q w. cond (ltb (rank w) (rank (primary_of m held r q))) (primary_of m held r q) w) 0
      ≡ fold_below 16 (λ q w. cond (ltb (rank w) (rank (primary_of m held r q))) (primary_of m held r q) w) 0
  primaries-end h = fold_stays 16 z _ 0 h (λ i a l. rw (no-primary i l) (simp (rank-none, le-ltb (rank a) 0 (omega arith))))
