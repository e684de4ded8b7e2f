-- A step for each of n words, and a script part for each, as one fold over the record: what no step stores stays, and what one step alone stores is as it leaves it.
use mathlib.Core.Bool.{Bool, true, false, cond}
use mathlib.Core.Logic.{⊎_elim}
use mathlib.Core.Path.{◌≡◌, refl, sym, ap, ◌∙◌}
use mathlib.Core.List.{List}
use Prim.Native.Nat.{ℕ, zero, suc, ◌<◌}
use native.Mathlib.Nat.{le_refl, not-suc-le-zero, lt_irrefl}
use native.Mathlib.Omega.{arith}
use lib.ListN.{length}
use Rattle.loops.specs.Below.{fold_below, collect}
use Rattle.loops.proofs.Laws.Fold.{fold-keeps}
use Rattle.loops.proofs.Laws.Order.{below_suc}
use Rattle.store.specs.Desk.{Store, apply}
use Rattle.store.specs.Program.{Step, after, up_to}
use Rattle.store.proofs.Laws.Script.{apply-append, apply-length}
use Rattle.store.proofs.Laws.Program.{after_none, after_next, up_to-none}

-- step i, with no pen
abbrev pub taken : (ℕ → Step) → ℕ → List ℕ → List ℕ
taken f i x = apply (f i x) x

-- the record after the steps 0, 1, .., n - 1
abbrev pub phase : ℕ → (ℕ → Step) → List ℕ → List ℕ
phase n f x = fold_below n (taken f) x

pub after-phase : (n : ℕ) (f : ℕ → Step) (r : List ℕ) → after (up_to n f) r ≡ phase n f r
unfolding fold_below
after-phase zero f r = ap (λ (a : List Step). after a r) (up_to-none f) ∙ after_none r
after-phase (suc n) f r = after_next n f r ∙ ap (taken f n) (after-phase n f r)

pub collect-phase : (n : ℕ) (part : ℕ → List Store) (r : List ℕ) → apply (collect n part) r ≡ phase n (λ i x. part i) r
unfolding collect fold_below apply
collect-phase zero part r = refl
collect-phase (suc n) part r = apply-append (collect n part) (part n) r ∙ ap (apply (part n)) (collect-phase n part r)

module _ (f : ℕ → Step) (x : List ℕ) where
  pub phase-length : (n : ℕ) → length (phase n f x) ≡ length x
  phase-length n = fold-keeps (λ (i : ℕ) (y : List ℕ). length y ≡ length x) n (taken f) x refl (λ i y h e. apply-length (f i y) y ∙ e)

  -- what no step changes
  pub phase-keeps : {X : Type 0} (g : List ℕ → X) (n : ℕ) → ((i : ℕ) (y : List ℕ) → i < n → length y ≡ length x → g (taken f i y) ≡ g y) → g (phase n f x) ≡ g x
  unfolding fold_below
  phase-keeps g zero k = refl
  phase-keeps g (suc n) k = k n (phase n f x) (le_refl (suc n)) (phase-length n) ∙ phase-keeps g n (λ i y h. k i y (omega arith))

  -- what step j alone changes becomes what step j makes it, and it makes it from what the steps before leave
  pub phase-sets : (get val : List ℕ → ℕ) (n j : ℕ) → j < n
      → ((i : ℕ) (y : List ℕ) → i < n → (j ≡ i → ⊥) → length y ≡ length x → get (taken f i y) ≡ get y)
      → ((i : ℕ) (y : List ℕ) → i < n → (j ≡ i → ⊥) → length y ≡ length x → val (taken f i y) ≡ val y)
      → ((y : List ℕ) → length y ≡ length x → get (taken f j y) ≡ val y)
      → get (phase n f x) ≡ val x
  unfolding fold_below
  phase-sets get val zero j h others reads own = absurd (not-suc-le-zero h)
  phase-sets get val (suc n) j h others reads own =
      ⊎_elim
      (λ e.
      ap (λ (i : ℕ). get (taken f i (phase n f x))) (sym e) ∙ own (phase n f x) (phase-length n)
      ∙ phase-keeps val n (λ i y l. reads i y (omega arith) (λ q. lt_irrefl i (omega arith))))
      (λ l.
      others n (phase n f x) (le_refl (suc n)) (λ q. lt_irrefl n (omega arith)) (phase-length n)
      ∙ phase-sets get val n j l (λ i y b. others i y (omega arith)) (λ i y b. reads i y (omega arith)) own)
      (below_suc h)

-- a step that makes z of x, or leaves it
pub made-keeps : {X : Type 0} (g : List ℕ → X) (c : Bool) (z x : List ℕ) {y : List ℕ} → y ≡ cond c z x → g z ≡ g x → g y ≡ g x
made-keeps g c z x e k = ap g e ∙ go c
  where
    go : (b : Bool) → g (cond b z x) ≡ g x
    go true = k
    go false = refl

pub made-sets : {X : Type 0} (g : List ℕ → X) (c : Bool) (z x : List ℕ) {y : List ℕ} {v : X} → y ≡ cond c z x → g z ≡ v → g y ≡ cond c v (g x)
made-sets g c z x {v = v} e k = ap g e ∙ go c
  where
    go : (b : Bool) → g (cond b z x) ≡ cond b v (g x)
    go true = k
    go false = refl
