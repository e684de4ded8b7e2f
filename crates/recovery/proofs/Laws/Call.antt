-- Recover, case by case: what its code has at each of its ends is the definition's outcome.
use mathlib.Core.Bool.{Bool, true, false, cond, ◌&&◌}
use mathlib.Core.Path.{◌≡◌, sym, ap, ◌∙◌}
use mathlib.Core.List.{List, [], ◌∷◌, ◌++◌}
use Prim.Native.Nat.{ℕ, ◌≤◌}
use native.Mathlib.Omega.{arith}
use lib.Dec.{eqb, leb, ltb}
use lib.ListN.{length, take}
use lib.Seq.{take_all}
use borrow.Author.Tests.{eq-eqb, ne_eqb, ltb-false}
use Rattle.loops.proofs.Laws.Truth.{and_right, cond-elim}
use Rattle.group.specs.Heads.{has}
use Rattle.group.specs.Words.{rank}
use Rattle.group.specs.Answers.{Said, cut, recovered, refused}
use Rattle.store.specs.Desk.{Store, Desk, desk, budget, is_cut, apply}
use Rattle.store.specs.Program.{exec, script, after, up_to}
use Rattle.store.proofs.Laws.Put.{diff_if-short}
use Rattle.store.proofs.Laws.Program.{exec-take, exec-cuts, script-one, append-short, up_to-short}
use Rattle.record.specs.Layout.{primary, place_at, store_number, store_formed, store_place, store_marks}
use Rattle.record.specs.Whole.{whole, words_whole}
use Rattle.record.specs.Outcome.{Outcome}
use Rattle.record.proofs.Laws.Outcome.{one-outcome}
use Rattle.record.proofs.Laws.Whole.{right_length}
use Rattle.recovery.proofs.Laws.Mended.{mended-length}
use Rattle.recovery.specs.Recover.{greatest, raise_step, formed_step, clear_step, wipe_step, mend_program, mended, mendable, recover_spec}
use Rattle.recovery.specs.Statements.{EndsRecovered, Determined}

-- ---- how many stores

-- each step stores one word at most
pub mend-short : (r : List ℕ) → length (script mend_program r) ≤ 49
unfolding mend_program raise_step formed_step clear_step wipe_step
mend-short r =
    append-short (raise_step ∷ []) (up_to 16 formed_step ++ (up_to 16 clear_step ++ up_to 16 wipe_step)) 1 48
    (λ x. rw (script-one raise_step x) (diff_if-short true (store_number (greatest x)) x))
    (append-short (up_to 16 formed_step) (up_to 16 clear_step ++ up_to 16 wipe_step) 16 32
    (up_to-short formed_step (λ q x. diff_if-short (has (primary x) q) (store_formed q (primary x)) x) 16)
    (append-short (up_to 16 clear_step) (up_to 16 wipe_step) 16 16
    (up_to-short clear_step (λ i x. diff_if-short (leb (rank (place_at x i)) (rank (primary x))) (store_place i 0) x) 16)
    (up_to-short wipe_step (λ i x. diff_if-short (eqb (place_at x i) 0) (store_marks i 0) x) 16))) r

-- ---- the call

abbrev leaves : Said → List ℕ → Outcome
leaves a r = record { answer = a; rec = r }

module _ (r : List ℕ) where
  pub other_length : (length r ≡ 52 → ⊥) → mendable r ≡ false
  unfolding mendable
  other_length h = ap (λ (b : Bool). b && whole (mended r)) (ne_eqb (length r) 52 h)

  pub right-length : length r ≡ 52 → mendable r ≡ whole (mended r)
  unfolding mendable
  right-length h = ap (λ (b : Bool). b && whole (mended r)) (eq-eqb (length r) 52 h)

  -- of 52 words it is asked of the words of the recovered record
  pub mends-words : length r ≡ 52 → mendable r ≡ words_whole (mended r)
  mends-words h = right-length h ∙ right_length (mended r) (mended-length r ∙ h)

module _ (r : List ℕ) (k : ℕ) where
  pub recover-refused : mendable r ≡ false → leaves (refused 2) r ≡ recover_spec r k
  unfolding recover_spec
  recover-refused e = rw e

  module _ (d : Desk) (e : d ≡ exec mend_program (desk r (budget k))) (m : mendable r ≡ true) where
    ends : (b : Bool) → is_cut d.pen ≡ b → leaves (cond b cut recovered) d.rec ≡ recover_spec r k
    unfolding recover_spec
    ends b q =
        let c : ltb k (length (script mend_program r)) ≡ b = sym (ap (λ (x : Desk). is_cut x.pen) e ∙ exec-cuts mend_program k r) ∙ q in
        let l : d.rec ≡ apply (take k (script mend_program r)) r = ap (λ (x : Desk). x.rec) e ∙ exec-take mend_program k r in
        rw (m, c) (ap (leaves (cond b cut recovered)) l)

    pub recover-cut : is_cut d.pen ≡ true → leaves cut d.rec ≡ recover_spec r k
    recover-cut q = ends true q

    pub recover-done : is_cut d.pen ≡ false → leaves recovered d.rec ≡ recover_spec r k
    recover-done q = ends false q

-- ---- what holds of it

cut-is-not-recovered : cut ≡ recovered → ⊥
cut-is-not-recovered e = let z : ◌≡◌ {A = ℕ} 0 1 = cc in omega arith

refused-is-not-recovered : refused 2 ≡ recovered → ⊥
refused-is-not-recovered e = let z : ◌≡◌ {A = ℕ} 0 1 = cc in omega arith

pub ends-recovered : EndsRecovered
unfolding recover_spec mendable mended after
ends-recovered r k =
    cond-elim (λ (o : Outcome). o.answer ≡ recovered → (o.rec ≡ mended r) × (whole (mended r) ≡ true)) (mendable r) _ _
    (λ m.
    cond-elim (λ (s : Said). s ≡ recovered → (apply (take k (script mend_program r)) r ≡ mended r) × (whole (mended r) ≡ true)) (ltb k (length (script mend_program r))) cut recovered
    (λ t e. absurd (cut-is-not-recovered e))
    (λ t e.
    (ap (λ (s : List Store). apply s r) (take_all k (script mend_program r) (ltb-false k (length (script mend_program r)) t)), and_right (eqb (length r) 52) (whole (mended r)) m)))
    (λ m e. absurd (refused-is-not-recovered e))

pub recover-determined : Determined
recover-determined r k = one-outcome (recover_spec r k)
