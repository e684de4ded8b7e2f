-- Changes one after the other, and calls made of steps that are each one change or nothing: by induction on them.
use mathlib.Core.Bool.{Bool, true, false, cond}
use mathlib.Core.Logic.{◌⊎◌, inl, inr, ⊎_elim}
use mathlib.Core.Path.{◌≡◌, refl, sym, ap, subst, ◌∙◌}
use mathlib.Core.List.{List, [], ◌∷◌, ◌++◌}
use Prim.Native.Nat.{ℕ, zero, suc, ◌-◌, ◌<◌}
use native.Mathlib.Omega.{arith}
use lib.ListN.{length, take}
use Rattle.loops.proofs.Laws.Truth.{clash}
use Rattle.store.specs.Desk.{Store, desk, budget, apply, differs}
use Rattle.store.specs.Program.{Step, exec, script, after, up_to}
use Rattle.store.specs.Changes.{Change, non_empty, begun, step_stores, made, changes_of}
use Rattle.store.proofs.Laws.Script.{apply-append}
use Rattle.store.proofs.Laws.Program.{exec-take, up_to-none, up_to-next}
use Rattle.store.proofs.Laws.Changes.{changes-script}
use Rattle.record.specs.Whole.{whole}
use Rattle.recovery.specs.Recover.{mended}
use Rattle.recovery.specs.Statements.{Sound, Sounds, Sounds.last as last, Sounds.next as next}
use Rattle.recovery.proofs.Laws.Cut.{recovers-done}

-- ---- changes

-- the record is whole after those begun
pub sounds-begun : (cs : List Change) (r : List ℕ) (k : ℕ) → Sounds cs r → whole (apply (begun k cs) r) ≡ true
unfolding begun apply
sounds-begun [] r zero (last e) = e
sounds-begun [] r (suc k) (last e) = e
sounds-begun (c ∷ cs) r zero (next s ss) = s.before
sounds-begun (c ∷ cs) r (suc k) (next s ss) = ap whole (apply-append c (begun (suc k - length c) cs) r) ∙ sounds-begun cs (apply c r) (suc k - length c) ss

pub sounds-one : (c : Change) (r : List ℕ) → Sound r c → Sounds (c ∷ []) r
sounds-one c r s = next s (last s.after)

-- ---- a step: one change, or nothing to store

abbrev pub OneOrNone : List ℕ → List Store → Type 0
OneOrNone r c = (c ≡ []) ⊎ Sound r c

pub cond-one : (r : List ℕ) (b : Bool) (c : List Store) → (b ≡ true → Sound r c) → OneOrNone r (cond b c [])
cond-one r true c f = inr (f refl)
cond-one r false c f = inl refl

pub differs-one : (r : List ℕ) (b : Bool) (s : Store) → Sound r (s ∷ []) → OneOrNone r (differs b s)
differs-one r true s t = inl refl
differs-one r false s t = inr t

pub one-after : (r : List ℕ) (c : List Store) → whole r ≡ true → OneOrNone r c → whole (apply c r) ≡ true
unfolding apply
one-after r c e o = ⊎_elim (λ z. ap (λ (a : List Store). whole (apply a r)) z ∙ e) (λ s. s.after) o

sounds-made : (r : List ℕ) (c : List Store) (cs : List (List Store)) → OneOrNone r c → Sounds (made cs) (apply c r) → Sounds (made (c ∷ cs)) r
unfolding made apply non_empty
sounds-made r [] cs o ss = ss
sounds-made r (s ∷ c) cs (inl z) ss = absurd (clash (ap non_empty z))
sounds-made r (s ∷ c) cs (inr t) ss = next t ss

-- ---- a call made of such steps

-- of each record with P the step is one change or nothing, and P holds after it
pub record Safe (P : List ℕ → Type 0) (f : Step) : Type 0 where
  pub sound : (r : List ℕ) → P r → OneOrNone r (f r)
  pub kept : (r : List ℕ) → P r → P (apply (f r) r)

pub data AllSafe (P : List ℕ → Type 0) : List Step → Type 0 where
  none : AllSafe P []
  more : {f : Step} {fs : List Step} → Safe P f → AllSafe P fs → AllSafe P (f ∷ fs)

module _ {P : List ℕ → Type 0} where
  pub safe-append : (a b : List Step) → AllSafe P a → AllSafe P b → AllSafe P (a ++ b)
  safe-append [] b none q = q
  safe-append (f ∷ a) b (more p ps) q = more p (safe-append a b ps q)

  pub safe-up_to : (f : ℕ → Step) (n : ℕ) → ((i : ℕ) → i < n → Safe P (f i)) → AllSafe P (up_to n f)
  safe-up_to f zero h = rw (up_to-none f) none
  safe-up_to f (suc n) h = rw (up_to-next n f) (safe-append (up_to n f) (f n ∷ []) (safe-up_to f n (λ i l. h i (omega arith))) (more (h n (omega arith)) none))

  module _ (good : (r : List ℕ) → P r → whole r ≡ true) where
    pub safe-sounds : (fs : List Step) (r : List ℕ) → AllSafe P fs → P r → Sounds (changes_of fs r) r
    unfolding changes_of step_stores made
    safe-sounds [] r none p = last (good r p)
    safe-sounds (f ∷ fs) r (more s ss) p = sounds-made r (f r) (step_stores fs (apply (f r) r)) (s.sound r p) (safe-sounds fs (apply (f r) r) ss (s.kept r p))

    -- WITH ANY BUDGET, RECOVERY OF WHAT THE CALL LEAVES GIVES THE RECORD AFTER THE CHANGES BEGUN
    pub call-cut : (fs : List Step) (r : List ℕ) (k : ℕ) → AllSafe P fs → P r → mended (exec fs (desk r (budget k))).rec ≡ apply (begun k (changes_of fs r)) r
    call-cut fs r k s p =
        ap mended (exec-take fs k r ∙ ap (λ (a : List Store). apply (take k a) r) (sym (changes-script fs r)))
        ∙ recovers-done (changes_of fs r) r (safe-sounds fs r s p) k

  pub safe-after : (fs : List Step) (r : List ℕ) → AllSafe P fs → P r → P (after fs r)
  unfolding after script apply
  safe-after [] r none p = p
  safe-after (f ∷ fs) r (more s ss) p = subst P (sym (apply-append (f r) (script fs (apply (f r) r)) r)) (safe-after fs (apply (f r) r) ss (s.kept r p))
