-- Laws of scripts, by induction on the script: what a pen of k stores leaves of one, and when it is cut.
use mathlib.Core.Bool.{true, false}
use mathlib.Core.Path.{◌≡◌, refl, sym, ap, ◌∙◌}
use mathlib.Core.List.{List, [], ◌∷◌, ◌++◌}
use Prim.Native.Nat.{ℕ, zero, suc, ◌+◌, ◌≤◌}
use lib.Dec.{ltb, leb-zero, leb-suc-zero, leb-suc-suc}
use lib.ListN.{length, take}
use lib.Seq.{take_all}
use borrow.Author.Tests.{le-ltb}
use Rattle.loops.specs.Below.{collect}
use Rattle.loops.proofs.Laws.Truth.{clash}
use Rattle.loops.proofs.Laws.Lists.{collect-none, collect-next, collect-end}
use Rattle.store.specs.declared.Pen.{Pen}
use Rattle.store.specs.declared.Pen.TheVariants.{Left, Cut}
use Rattle.store.specs.Desk.{Store, Desk, desk, stored, budget, is_cut, put_to, run, apply}
use Rattle.store.proofs.Laws.Put.{stored-length, put-cut, put-length}

pub run-append : (a b : List Store) (d : Desk) → run (a ++ b) d ≡ run b (run a d)
unfolding run
run-append [] b d = refl
run-append (s ∷ a) b d = run-append a b (put_to s d)

pub apply-append : (a b : List Store) (r : List ℕ) → apply (a ++ b) r ≡ apply b (apply a r)
unfolding apply
apply-append [] b r = refl
apply-append (s ∷ a) b r = apply-append a b (stored s r)

pub apply-length : (a : List Store) (r : List ℕ) → length (apply a r) ≡ length r
unfolding apply
apply-length [] r = refl
apply-length (s ∷ a) r = apply-length a (stored s r) ∙ stored-length s r

pub run_length : (a : List Store) (d : Desk) → length (run a d).rec ≡ length d.rec
unfolding run
run_length [] d = refl
run_length (s ∷ a) d = run_length a (put_to s d) ∙ put-length s d

-- a cut pen stores nothing more
pub run-cut : (a : List Store) (d : Desk) → is_cut d.pen ≡ true → run a d ≡ d
unfolding run
run-cut [] d e = refl
run-cut (s ∷ a) d e = ap (run a) (put-cut s d e) ∙ run-cut a d e

stays-cut : (a : List Store) (r : List ℕ) → is_cut (run a (desk r Cut)).pen ≡ false → ⊥
stays-cut a r e = clash (sym (ap (λ (d : Desk). is_cut d.pen) (run-cut a (desk r Cut) refl)) ∙ e)

run-uncut' : (a : List Store) (p : Pen) (r : List ℕ) → is_cut (run a (desk r p)).pen ≡ false → (run a (desk r p)).rec ≡ apply a r
unfolding run apply put_to
run-uncut' [] p r e = refl
run-uncut' (s ∷ a) Cut r e = absurd (stays-cut a r e)
run-uncut' (s ∷ a) (Left zero) r e = absurd (stays-cut a r e)
run-uncut' (s ∷ a) (Left (suc n)) r e = run-uncut' a (Left n) (stored s r) e

-- a script that is not cut makes all its stores
pub run-uncut : (a : List Store) (d : Desk) → is_cut (run a d).pen ≡ false → (run a d).rec ≡ apply a d.rec
run-uncut a d e = run-uncut' a d.pen d.rec e

-- WITH BUDGET k THE RECORD IS THAT OF THE FIRST k STORES
pub run_take : (a : List Store) (k : ℕ) (r : List ℕ) → (run a (desk r (budget k))).rec ≡ apply (take k a) r
unfolding run apply put_to
run_take [] zero r = refl
run_take [] (suc k) r = refl
run_take (s ∷ a) zero r = ap (λ (d : Desk). d.rec) (run-cut a (desk r Cut) refl)
run_take (s ∷ a) (suc k) r = run_take a k (stored s r)

-- AND IT IS CUT EXACTLY WHERE THE SCRIPT IS LONGER
pub run-cuts : (a : List Store) (k : ℕ) (r : List ℕ) → is_cut (run a (desk r (budget k))).pen ≡ ltb k (length a)
unfolding run put_to
run-cuts [] k r = sym (leb-suc-zero k)
run-cuts (s ∷ a) zero r =
    ap (λ (d : Desk). is_cut d.pen) (run-cut a (desk r Cut) refl)
    ∙ sym (leb-suc-suc 0 (length a) ∙ leb-zero (length a))
run-cuts (s ∷ a) (suc k) r = run-cuts a k (stored s r) ∙ sym (leb-suc-suc (suc k) (length a))

-- a budget that is just enough is not cut, and leaves the whole script's record
pub run-enough : (a : List Store) (k : ℕ) (r : List ℕ) → length a ≤ k
    → (is_cut (run a (desk r (budget k))).pen ≡ false) × ((run a (desk r (budget k))).rec ≡ apply a r)
run-enough a k r h =
    (run-cuts a k r ∙ le-ltb k (length a) h, run_take a k r ∙ ap (λ (s : List Store). apply s r) (take_all k a h))

-- ---- a loop that stores part i at its turn i

pub collect-start : (part : ℕ → List Store) (d : Desk) → d ≡ run (collect 0 part) d
unfolding run
collect-start part d = rw (collect-none part)

pub collect-again : (part : ℕ → List Store) (d₀ : Desk) {d d' : Desk} (i : ℕ) → d ≡ run (collect i part) d₀ → d' ≡ run (part i) d → d' ≡ run (collect (i + 1) part) d₀
collect-again part d₀ i e e' =
    e' ∙ ap (run (part i)) e ∙ sym (ap (λ (a : List Store). run a d₀) (collect-next i part) ∙ run-append (collect i part) (part i) d₀)

pub collect-done : (part : ℕ → List Store) (d : Desk) (i n : ℕ) → i ≤ n → n ≤ i → run (collect i part) d ≡ run (collect n part) d
collect-done part d i n h k = ap (λ (a : List Store). run a d) (collect-end part i n h k)
