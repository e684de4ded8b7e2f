-- Laws of programs: steps that read the record as they go make the script of the whole, so what holds of scripts holds of programs.
use mathlib.Core.Bool.{Bool, true, false}
use mathlib.Core.Path.{◌≡◌, refl, sym, ap, ◌∙◌}
use mathlib.Core.List.{List, [], ◌∷◌, ◌++◌, append_assoc, append-nil}
use Prim.Native.Nat.{ℕ, zero, suc, ◌+◌, ◌≤◌}
use native.Mathlib.Omega.{arith}
use lib.Dec.{ltb}
use lib.ListN.{length, take, length-append}
use Rattle.loops.specs.Below.{fold_below, collect}
use Rattle.loops.proofs.Laws.Lists.{collect-none, collect-next}
use Rattle.store.specs.Desk.{Store, Desk, desk, budget, is_cut, run, apply}
use Rattle.store.specs.Program.{Step, step_by, exec, script, after, up_to}
use Rattle.store.proofs.Laws.Script.{run-append, run-cut, run-uncut, run_take, run-cuts, apply-append, apply-length}

-- ---- a program is its script

exec-cut : (fs : List Step) (d : Desk) → is_cut d.pen ≡ true → exec fs d ≡ d
unfolding exec step_by
exec-cut [] d e = refl
exec-cut (f ∷ fs) d e = ap (exec fs) (run-cut (f d.rec) d e) ∙ exec-cut fs d e

exec-run' : (fs : List Step) (a : List Store) (d : Desk) (b : Bool) → is_cut (run a d).pen ≡ b
    → ((d' : Desk) → exec fs d' ≡ run (script fs d'.rec) d')
    → exec fs (run a d) ≡ run (script fs (apply a d.rec)) (run a d)
exec-run' fs a d true e ih = exec-cut fs (run a d) e ∙ sym (run-cut (script fs (apply a d.rec)) (run a d) e)
exec-run' fs a d false e ih = ih (run a d) ∙ ap (λ (r : List ℕ). run (script fs r) (run a d)) (run-uncut a d e)

pub exec-run : (fs : List Step) (d : Desk) → exec fs d ≡ run (script fs d.rec) d
unfolding exec script step_by run
exec-run [] d = refl
exec-run (f ∷ fs) d =
    exec-run' fs (f d.rec) d (is_cut (run (f d.rec) d).pen) refl (exec-run fs)
    ∙ sym (run-append (f d.rec) (script fs (apply (f d.rec) d.rec)) d)

-- WHAT A CALL WITH BUDGET k LEAVES: the first k of all its stores
pub exec-take : (fs : List Step) (k : ℕ) (r : List ℕ) → (exec fs (desk r (budget k))).rec ≡ apply (take k (script fs r)) r
exec-take fs k r = ap (λ (d : Desk). d.rec) (exec-run fs (desk r (budget k))) ∙ run_take (script fs r) k r

-- AND IT IS CUT EXACTLY WHERE IT NEEDS MORE
pub exec-cuts : (fs : List Step) (k : ℕ) (r : List ℕ) → is_cut (exec fs (desk r (budget k))).pen ≡ ltb k (length (script fs r))
exec-cuts fs k r = ap (λ (d : Desk). is_cut d.pen) (exec-run fs (desk r (budget k))) ∙ run-cuts (script fs r) k r

-- ---- programs one after the other

pub exec-append : (a b : List Step) (d : Desk) → exec (a ++ b) d ≡ exec b (exec a d)
unfolding exec
exec-append [] b d = refl
exec-append (f ∷ a) b d = exec-append a b (step_by f d)

pub exec-one : (f : Step) (d : Desk) → exec (f ∷ []) d ≡ step_by f d
unfolding exec
exec-one f d = refl

pub script-append : (a b : List Step) (r : List ℕ) → script (a ++ b) r ≡ script a r ++ script b (apply (script a r) r)
unfolding script apply
script-append [] b r = refl
script-append (f ∷ a) b r =
    ap (λ (l : List Store). f r ++ l) (script-append a b (apply (f r) r))
    ∙ sym (append_assoc (f r) (script a (apply (f r) r)) (script b (apply (script a (apply (f r) r)) (apply (f r) r))))
    ∙ ap (λ (x : List ℕ). (f r ++ script a (apply (f r) r)) ++ script b x) (sym (apply-append (f r) (script a (apply (f r) r)) r))

pub script-one : (f : Step) (r : List ℕ) → script (f ∷ []) r ≡ f r
unfolding script
script-one f r = append-nil (f r)

-- steps of one store at most: the script is no longer than the program
pub append-short : (a b : List Step) (m n : ℕ) → ((r : List ℕ) → length (script a r) ≤ m) → ((r : List ℕ) → length (script b r) ≤ n)
    → (r : List ℕ) → length (script (a ++ b) r) ≤ m + n
append-short a b m n f g r = rw (script-append a b r, length-append) (omega (arith, f r, g (apply (script a r) r)))

-- ---- the record a program leaves

pub after_none : (r : List ℕ) → after [] r ≡ r
unfolding after script apply
after_none r = refl

pub after_one : (f : Step) (r : List ℕ) → after (f ∷ []) r ≡ apply (f r) r
unfolding after
after_one f r = ap (λ (s : List Store). apply s r) (script-one f r)

pub after-append : (a b : List Step) (r : List ℕ) → after (a ++ b) r ≡ after b (after a r)
unfolding after
after-append a b r = ap (λ (s : List Store). apply s r) (script-append a b r) ∙ apply-append (script a r) (script b (apply (script a r) r)) r

pub after-length : (fs : List Step) (r : List ℕ) → length (after fs r) ≡ length r
unfolding after
after-length fs r = apply-length (script fs r) r

-- ---- the steps f 0, f 1, .., f (n - 1)

pub up_to-none : (f : ℕ → Step) → up_to 0 f ≡ []
unfolding up_to
up_to-none f = collect-none (λ i. f i ∷ [])

pub up_to-next : (n : ℕ) (f : ℕ → Step) → up_to (suc n) f ≡ up_to n f ++ (f n ∷ [])
unfolding up_to collect fold_below
up_to-next n f = refl

-- as a loop takes them
pub steps-start : (f : ℕ → Step) (d : Desk) → d ≡ exec (up_to 0 f) d
unfolding exec
steps-start f d = rw (up_to-none f)

pub steps-again : (f : ℕ → Step) (d₀ : Desk) {d d' : Desk} (i : ℕ) → d ≡ exec (up_to i f) d₀ → d' ≡ step_by (f i) d → d' ≡ exec (up_to (i + 1) f) d₀
unfolding up_to
steps-again f d₀ i e e' =
    e' ∙ ap (step_by (f i)) e
    ∙ sym (ap (λ (a : List Step). exec a d₀) (collect-next i (λ j. f j ∷ [])) ∙ exec-append (up_to i f) (f i ∷ []) d₀ ∙ exec-one (f i) (exec (up_to i f) d₀))

pub steps-done : (f : ℕ → Step) (d : Desk) (i n : ℕ) → i ≤ n → n ≤ i → exec (up_to i f) d ≡ exec (up_to n f) d
steps-done f d i n h k = ap (λ (m : ℕ). exec (up_to m f) d) (omega arith)

pub after_next : (n : ℕ) (f : ℕ → Step) (r : List ℕ) → after (up_to (suc n) f) r ≡ apply (f n (after (up_to n f) r)) (after (up_to n f) r)
after_next n f r = ap (λ (a : List Step). after a r) (up_to-next n f) ∙ after-append (up_to n f) (f n ∷ []) r ∙ after_one (f n) (after (up_to n f) r)

pub up_to-short : (f : ℕ → Step) → ((i : ℕ) (r : List ℕ) → length (f i r) ≤ 1) → (n : ℕ) (r : List ℕ) → length (script (up_to n f) r) ≤ n
unfolding script
up_to-short f h zero r = rw (up_to-none f) (omega arith)
up_to-short f h (suc n) r =
    let s : List ℕ = apply (script (up_to n f) r) r in
    rw (up_to-next n f, script-append (up_to n f) (f n ∷ []) r, length-append, script-one (f n) s) (omega (arith, up_to-short f h n r, h n s))
