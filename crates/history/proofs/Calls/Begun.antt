-- A program of changes that is cut anywhere: which part of it was cut, and what its steps keep.
use mathlib.Core.Logic.{◌⊎◌, inl, inr, ⊎_elim}
use mathlib.Core.Path.{◌≡◌, refl, sym, ap, subst, ◌∙◌}
use mathlib.Core.List.{List, [], ◌∷◌, ◌++◌}
use Prim.Native.Nat.{ℕ, zero, suc, ◌-◌, ◌<◌}
use native.Mathlib.Omega.{arith}
use lib.ListN.{length}
use Rattle.store.specs.Desk.{Store, apply}
use Rattle.store.specs.Program.{Step, script, after, up_to}
use Rattle.store.specs.Changes.{Change, all_stores, begun, step_stores, changes_of}
use Rattle.store.proofs.Laws.Script.{apply-append}
use Rattle.store.proofs.Laws.Program.{up_to-none, up_to-next}
use Rattle.store.proofs.Laws.Changes.{steps-script, changes-begun}

pub none-begun : (k : ℕ) → begun k [] ≡ []
unfolding begun
none-begun zero = refl
none-begun (suc k) = refl

pub after_first : (f : Step) (fs : List Step) (r : List ℕ) → after (f ∷ fs) r ≡ after fs (apply (f r) r)
unfolding after script
after_first f fs r = apply-append (f r) (script fs (apply (f r) r)) r

steps-append : (fs gs : List Step) (r : List ℕ) → step_stores (fs ++ gs) r ≡ step_stores fs r ++ step_stores gs (after fs r)
unfolding step_stores after script apply
steps-append [] gs r = refl
steps-append (f ∷ fs) gs r =
    ap (λ (cs : List Change). f r ∷ cs)
    (steps-append fs gs (apply (f r) r) ∙ ap (λ (x : List ℕ). step_stores fs (apply (f r) r) ++ step_stores gs x) (sym (apply-append (f r) (script fs (apply (f r) r)) r)))

-- changes and more changes: as without those, or all of these and some of those
begun-cases : (cs ds : List Change) (k : ℕ) (r : List ℕ)
    → (apply (begun k (cs ++ ds)) r ≡ apply (begun k cs) r) ⊎ ((j : ℕ) × (apply (begun k (cs ++ ds)) r ≡ apply (begun j ds) (apply (all_stores cs) r)))
unfolding begun all_stores apply
begun-cases [] ds k r = inr (k, refl)
begun-cases (c ∷ cs) ds zero r = inl refl
begun-cases (c ∷ cs) ds (suc k) r =
    ⊎_elim
    (λ e. inl (apply-append c (begun (suc k - length c) (cs ++ ds)) r ∙ e ∙ sym (apply-append c (begun (suc k - length c) cs) r)))
    (λ (j, e). inr (j, apply-append c (begun (suc k - length c) (cs ++ ds)) r ∙ e ∙ ap (apply (begun j ds)) (sym (apply-append c (all_stores cs) r))))
    (begun-cases cs ds (suc k - length c) (apply c r))

-- the record after the steps begun with k stores; those that store something are the changes done
abbrev pub cut_at : ℕ → List Step → List ℕ → List ℕ
cut_at k fs r = apply (begun k (step_stores fs r)) r

pub cut-changes : (k : ℕ) (fs : List Step) (r : List ℕ) → apply (begun k (changes_of fs r)) r ≡ cut_at k fs r
cut-changes k fs r = ap (λ (a : List Store). apply a r) (changes-begun k fs r)

pub cut-append : (fs gs : List Step) (r : List ℕ) (k : ℕ) → (cut_at k (fs ++ gs) r ≡ cut_at k fs r) ⊎ ((j : ℕ) × (cut_at k (fs ++ gs) r ≡ cut_at j gs (after fs r)))
unfolding after
cut-append fs gs r k =
    let e : cut_at k (fs ++ gs) r ≡ apply (begun k (step_stores fs r ++ step_stores gs (apply (script fs r) r))) r = ap (λ (cs : List Change). apply (begun k cs) r) (steps-append fs gs r) in
    ⊎_elim (λ t. inl (e ∙ t))
    (λ (j, t). inr (j, e ∙ t ∙ ap (λ (a : List Store). apply (begun j (step_stores gs (apply (script fs r) r))) (apply a r)) (steps-script fs r)))
    (begun-cases (step_stores fs r) (step_stores gs (apply (script fs r) r)) k r)

pub cut-first : (f : Step) (fs : List Step) (r : List ℕ) (k : ℕ) → (cut_at k (f ∷ fs) r ≡ r) ⊎ ((j : ℕ) × (cut_at k (f ∷ fs) r ≡ cut_at j fs (apply (f r) r)))
unfolding begun step_stores apply
cut-first f fs r zero = inl refl
cut-first f fs r (suc k) = inr (suc k - length (f r), apply-append (f r) (begun (suc k - length (f r)) (step_stores fs (apply (f r) r))) r)

pub cut-none : (r : List ℕ) (k : ℕ) → cut_at k [] r ≡ r
unfolding step_stores apply
cut-none r k = ap (λ (a : List Store). apply a r) (none-begun k)

-- ---- what each step keeps holds wherever the program is cut

module _ (P : List ℕ → Type 0) where
  pub data AllKeep : List Step → Type 0 where
    none : AllKeep []
    more : {f : Step} {fs : List Step} → ((x : List ℕ) → P x → P (apply (f x) x)) → AllKeep fs → AllKeep (f ∷ fs)

module _ {P : List ℕ → Type 0} where
  keep_append : (a b : List Step) → AllKeep P a → AllKeep P b → AllKeep P (a ++ b)
  keep_append [] b none q = q
  keep_append (f ∷ a) b (more p ps) q = more p (keep_append a b ps q)

  pub keep-up_to : (f : ℕ → Step) (n : ℕ) → ((i : ℕ) → i < n → (x : List ℕ) → P x → P (apply (f i x) x)) → AllKeep P (up_to n f)
  keep-up_to f zero h = rw (up_to-none f) none
  keep-up_to f (suc n) h = rw (up_to-next n f) (keep_append (up_to n f) (f n ∷ []) (keep-up_to f n (λ i l. h i (omega arith))) (more (h n (omega arith)) none))

  pub cut_keeps : (fs : List Step) (r : List ℕ) (k : ℕ) → AllKeep P fs → P r → P (cut_at k fs r)
  cut_keeps [] r k none p = subst P (sym (cut-none r k)) p
  cut_keeps (f ∷ fs) r k (more q qs) p =
      ⊎_elim (λ e. subst P (sym e) p) (λ (j, e). subst P (sym e) (cut_keeps fs (apply (f r) r) j qs (q r p))) (cut-first f fs r k)

  pub after-keeps : (fs : List Step) (r : List ℕ) → AllKeep P fs → P r → P (after fs r)
  unfolding after script apply
  after-keeps [] r none p = p
  after-keeps (f ∷ fs) r (more q qs) p = subst P (sym (apply-append (f r) (script fs (apply (f r) r)) r)) (after-keeps fs (apply (f r) r) qs (q r p))
