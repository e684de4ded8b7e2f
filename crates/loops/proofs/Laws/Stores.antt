-- Laws of `store_when`: n stores from a base on, each where its test passes. One store at a time: outside its index nothing changes.
use mathlib.Core.Path.{◌≡◌, refl, sym, ap, ◌∙◌}
use mathlib.Core.Bool.{Bool, true, false, cond}
use mathlib.Core.Logic.{◌⊎◌, inr, ⊎_elim}
use mathlib.Core.List.{List}
use Prim.Native.Nat.{ℕ, zero, suc, ◌+◌, ◌≤◌, ◌<◌}
use native.Mathlib.Nat.{le_refl, not-suc-le-zero, lt_irrefl}
use native.Mathlib.Omega.{arith}
use lib.ListN.{length, get_or, set, length-set}
use lib.Seq.{get_or-set_same, get_or-set_other}
use Rattle.loops.specs.Below.{fold_below, store_when}
use Rattle.loops.proofs.Laws.Order.{below_suc}
use Rattle.loops.proofs.Laws.Fold.{fold-keeps}

module _ {A : Type 0} (base : ℕ) (p : ℕ → Bool) (f : ℕ → A) where
  one-length : (i : ℕ) (l : List A) → length (store_when base p f i l) ≡ length l
  unfolding store_when
  one-length i l = go (p i)
    where
      go : (b : Bool) → length (cond b (set l (base + i) (f i)) l) ≡ length l
      go true = length-set l (base + i) (f i)
      go false = refl

  one-other : (i : ℕ) (l : List A) (k : ℕ) (d : A) → (k ≡ base + i → ⊥) → get_or (store_when base p f i l) k d ≡ get_or l k d
  unfolding store_when
  one-other i l k d ne = go (p i)
    where
      go : (b : Bool) → get_or (cond b (set l (base + i) (f i)) l) k d ≡ get_or l k d
      go true = get_or-set_other l (base + i) k (f i) d ne
      go false = refl

  one_same : (i : ℕ) (l : List A) (d : A) → base + i < length l → get_or (store_when base p f i l) (base + i) d ≡ cond (p i) (f i) (get_or l (base + i) d)
  unfolding store_when
  one_same i l d h = go (p i)
    where
      go : (b : Bool) → get_or (cond b (set l (base + i) (f i)) l) (base + i) d ≡ cond b (f i) (get_or l (base + i) d)
      go true = get_or-set_same l (base + i) (f i) d h
      go false = refl

  -- the two arms of a turn that stores under a test
  pub store-taken : (i : ℕ) (l : List A) → p i ≡ true → set l (base + i) (f i) ≡ store_when base p f i l
  unfolding store_when
  store-taken i l e = simp e

  pub store-left : (i : ℕ) (l : List A) → p i ≡ false → l ≡ store_when base p f i l
  unfolding store_when
  store-left i l e = simp e

  pub stores-length : (n : ℕ) (l : List A) → length (fold_below n (store_when base p f) l) ≡ length l
  stores-length n l =
      fold-keeps (λ (i : ℕ) (x : List A). length x ≡ length l) n (store_when base p f) l refl (λ i x h e. one-length i x ∙ e)

  -- outside the range nothing changes
  pub stores-out : (n : ℕ) (l : List A) (k : ℕ) (d : A) → (k < base) ⊎ (base + n ≤ k) → get_or (fold_below n (store_when base p f) l) k d ≡ get_or l k d
  stores-out n l k d o =
      fold-keeps (λ (i : ℕ) (x : List A). get_or x k d ≡ get_or l k d) n (store_when base p f) l refl
      (λ i x h e. one-other i x k d (λ q. ⊎_elim (λ a. lt_irrefl 0 (omega arith)) (λ b. lt_irrefl 0 (omega arith)) o) ∙ e)

  -- in it each element is the stored one where its test passes
  pub stores-in : (n : ℕ) (l : List A) (i : ℕ) (d : A) → i < n → base + n ≤ length l
      → get_or (fold_below n (store_when base p f) l) (base + i) d ≡ cond (p i) (f i) (get_or l (base + i) d)
  unfolding fold_below
  stores-in zero l i d h r = absurd (not-suc-le-zero h)
  stores-in (suc n) l i d h r =
      let x = fold_below n (store_when base p f) l in
      ⊎_elim
      (λ e.
      ap (λ (m : ℕ). get_or (store_when base p f n x) (base + m) d) e
      ∙ one_same n x d (omega (arith, stores-length n l))
      ∙ ap (cond (p n) (f n)) (stores-out n l (base + n) d (inr (le_refl (base + n))))
      ∙ ap (λ (m : ℕ). cond (p m) (f m) (get_or l (base + m) d)) (sym e))
      (λ b. one-other n x (base + i) d (λ q. lt_irrefl 0 (omega arith)) ∙ stores-in n l i d b (omega arith))
      (below_suc h)
