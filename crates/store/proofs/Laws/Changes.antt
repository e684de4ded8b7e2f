-- Laws of changes that do not ask what recovery does with them. By induction on the changes.
use mathlib.Core.Bool.{true}
use mathlib.Core.Path.{◌≡◌, refl, ap, ◌∙◌}
use mathlib.Core.List.{List, [], ◌∷◌, ◌++◌}
use Prim.Native.Nat.{ℕ, zero, suc, ◌-◌}
use native.Mathlib.Omega.{arith}
use lib.ListN.{length}
use Rattle.store.specs.Desk.{Store, apply}
use Rattle.store.specs.Program.{Step, script}
use Rattle.store.specs.Changes.{Change, all_non_empty, all_stores, begun, changes_of, made, non_empty, step_stores}

-- before the first store nothing is done
pub begun-none : (cs : List Change) → begun 0 cs ≡ []
unfolding begun
begun-none [] = refl
begun-none (c ∷ cs) = refl

-- ---- steps that store nothing left out: the same stores, and the same are done after k of them

pub made-nonempty : (cs : List (List Store)) → all_non_empty (made cs) ≡ true
unfolding made all_non_empty non_empty
made-nonempty [] = refl
made-nonempty ([] ∷ cs) = made-nonempty cs
made-nonempty ((s ∷ c) ∷ cs) = made-nonempty cs

made-stores : (cs : List (List Store)) → all_stores (made cs) ≡ all_stores cs
unfolding made all_stores
made-stores [] = refl
made-stores ([] ∷ cs) = made-stores cs
made-stores ((s ∷ c) ∷ cs) = ap (λ (l : List Store). (s ∷ c) ++ l) (made-stores cs)

made-begun : (k : ℕ) (cs : List (List Store)) → begun k (made cs) ≡ begun k cs
unfolding made begun
made-begun k [] = refl
made-begun zero ([] ∷ cs) = begun-none (made cs)
made-begun (suc k) ([] ∷ cs) = made-begun (suc k) cs ∙ ap (λ (j : ℕ). begun j cs) (all k)
  where
    all : (n : ℕ) → suc n ≡ suc n - 0
    all n = omega arith
made-begun zero ((s ∷ c) ∷ cs) = refl
made-begun (suc k) ((s ∷ c) ∷ cs) = ap (λ (l : List Store). (s ∷ c) ++ l) (made-begun (suc k - length (s ∷ c)) cs)

-- ---- the changes of a program

-- EACH STORES SOMETHING
pub changes-nonempty : (fs : List Step) (r : List ℕ) → all_non_empty (changes_of fs r) ≡ true
unfolding changes_of
changes-nonempty fs r = made-nonempty (step_stores fs r)

pub steps-script : (fs : List Step) (r : List ℕ) → all_stores (step_stores fs r) ≡ script fs r
unfolding step_stores all_stores script
steps-script [] r = refl
steps-script (f ∷ fs) r = ap (λ (s : List Store). f r ++ s) (steps-script fs (apply (f r) r))

-- together they have its stores
pub changes-script : (fs : List Step) (r : List ℕ) → all_stores (changes_of fs r) ≡ script fs r
unfolding changes_of
changes-script fs r = made-stores (step_stores fs r) ∙ steps-script fs r

-- those done after k stores are the steps begun
pub changes-begun : (k : ℕ) (fs : List Step) (r : List ℕ) → begun k (changes_of fs r) ≡ begun k (step_stores fs r)
unfolding changes_of
changes-begun k fs r = made-begun k (step_stores fs r)
