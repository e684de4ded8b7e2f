-- The greatest number of a record is the least bound of word 2, the last primary's number and the places'. By induction over the places.
use mathlib.Core.Path.{◌≡◌}
use mathlib.Core.Logic.{⊎_elim}
use mathlib.Core.List.{List}
use Prim.Native.Nat.{ℕ, suc, ◌≤◌, ◌<◌, max}
use native.Mathlib.Nat.{le_antisymm}
use native.Mathlib.Omega.{arith}
use Rattle.loops.proofs.Laws.Fold.{fold-keeps}
use Rattle.loops.proofs.Laws.Order.{below_suc}
use Rattle.group.specs.Words.{num}
use Rattle.record.specs.Layout.{number, primary, place_at}
use Rattle.recovery.specs.Recover.{higher, greatest}

module _ (r : List ℕ) where
  pub greatest-le : (b : ℕ) → number r ≤ b → num (primary r) ≤ b → ((i : ℕ) → i < 16 → num (place_at r i) ≤ b) → greatest r ≤ b
  unfolding greatest
  greatest-le b n p f = fold-keeps (λ (i top : ℕ). top ≤ b) 16 (higher r) (max (number r) (num (primary r))) (omega arith) (λ i top h l. omega (arith, f i h))

  from_start : max (number r) (num (primary r)) ≤ greatest r
  unfolding greatest
  from_start = fold-keeps (λ (i top : ℕ). max (number r) (num (primary r)) ≤ top) 16 (higher r) (max (number r) (num (primary r))) (omega arith) (λ i top h l. omega arith)

  pub number-le : number r ≤ greatest r
  number-le = omega (arith, from_start)

  pub primary-le : num (primary r) ≤ greatest r
  primary-le = omega (arith, from_start)

  pub place-le : (j : ℕ) → j < 16 → num (place_at r j) ≤ greatest r
  unfolding greatest
  place-le j l =
      fold-keeps (λ (i top : ℕ). j < i → num (place_at r j) ≤ top) 16 (higher r) (max (number r) (num (primary r))) (λ h. absurd (omega arith)) (λ i top h f g. step i top f g) l
    where
      step : (i top : ℕ) → (j < i → num (place_at r j) ≤ top) → j < suc i → num (place_at r j) ≤ max top (num (place_at r i))
      step i top f g = ⊎_elim (λ e. rw e (omega arith)) (λ b. omega (arith, f b)) (below_suc g)

-- the greatest number is what every bound of one bounds of the other
pub same-greatest : (a b : List ℕ) → number a ≤ greatest b → num (primary a) ≤ greatest b → ((i : ℕ) → i < 16 → num (place_at a i) ≤ greatest b)
    → number b ≤ greatest a → num (primary b) ≤ greatest a → ((i : ℕ) → i < 16 → num (place_at b i) ≤ greatest a) → greatest a ≡ greatest b
same-greatest a b n p f n' p' f' = le_antisymm (greatest-le a (greatest b) n p f) (greatest-le b (greatest a) n' p' f')
