-- Decide's parts one after the other are its program, and its answer is that of the record as after c, unless the pen is cut.
use mathlib.Core.Path.{◌≡◌, sym, ap, ◌∙◌}
use mathlib.Core.Bool.{false, cond}
use mathlib.Core.Logic.{⊎_elim}
use mathlib.Core.List.{List, [], ◌∷◌}
use Prim.Native.Nat.{ℕ}
use lib.Dec.{ltb}
use lib.ListN.{get_or}
use Rattle.loops.specs.Below.{table}
use Rattle.loops.proofs.Laws.Truth.{passes-or-fails, not-both}
use Rattle.std.specs.Prelude.{Ok}
use Rattle.group.specs.Answers.{said}
use Rattle.group.specs.Words.{rank, highest_of}
use Rattle.store.specs.declared.Pen.{Pen}
use Rattle.store.specs.Desk.{Desk, desk, is_cut, run}
use Rattle.store.specs.Program.{step_by, exec, script, after, up_to}
use Rattle.store.proofs.Laws.Script.{run-cut, run-uncut}
use Rattle.store.proofs.Laws.Program.{exec-run, exec-append, exec-one}
use Rattle.record.specs.Layout.{settings, primary}
use Rattle.recovery.specs.Changes.{adopt_change}
use Rattle.state.specs.declared.Held.{Held}
use Rattle.plan.specs.Marks.{mark_step}
use Rattle.plan.specs.Adoption.{offered, best_offer, adopts, adopt_step}
use Rattle.plan.specs.Clearing.{clear_step}
use Rattle.plan.specs.Attempt.{decision, attempt_step}
use Rattle.plan.specs.Decide.{learning, after_c, decide_program, decide_answer}
use Rattle.deciding.specs.Decides.{Decides}
use Rattle.deciding.specs.declared.decide.Decided.{Decided}
use Rattle.plan.proofs.Laws.Marks.{marks-keep, offered-same}
use Rattle.plan.proofs.Laws.Branches.{highest-table}

-- w is the best offer of the record as after a: no mark changes what the others offer
adopt-by-offers : (m : ℕ) (held : Held) (r₁ : List ℕ) (p₁ : Pen) (w : ℕ) {d : Desk} → w ≡ best_offer m held r₁
    → d ≡ run (cond (ltb (rank (primary r₁)) (rank w)) (adopt_change r₁ w) []) (desk r₁ p₁) → d ≡ step_by (adopt_step m held) (desk r₁ p₁)
unfolding step_by adopt_step adopts
adopt-by-offers m held r₁ p₁ w e f = f ∙ rw e

module _ (m : ℕ) (held : Held) (r : List ℕ) (pen : Pen) where
  pub learn-chain : {offers : List ℕ} {w : ℕ} {r₁ : List ℕ} {p₁ : Pen} {d₂ d₃ : Desk}
      → offers ≡ table 16 (offered m held r)
      → desk r₁ p₁ ≡ exec (up_to 16 (mark_step m held)) (desk r pen)
      → w ≡ highest_of 16 (λ i. get_or offers i 0)
      → d₂ ≡ run (cond (ltb (rank (primary r₁)) (rank w)) (adopt_change r₁ w) []) (desk r₁ p₁)
      → d₃ ≡ exec (up_to 16 (clear_step m held)) d₂
      → d₃ ≡ exec (learning m held) (desk r pen)
  unfolding learning exec best_offer
  learn-chain {w = w} {r₁ = r₁} {p₁ = p₁} told a e b c =
      let same : settings r₁ ≡ settings r = ap (λ (d : Desk). settings d.rec) a ∙ marks-keep m held 16 (desk r pen) in
      let best = e ∙ highest-table (offered m held r₁) (told ∙ offered-same m held r r₁ (sym same)) in
      c ∙ ap (exec (up_to 16 (clear_step m held))) (adopt-by-offers m held r₁ p₁ w best b ∙ ap (step_by (adopt_step m held)) a)
      ∙ sym (exec-append (up_to 16 (mark_step m held)) (adopt_step m held ∷ up_to 16 (clear_step m held)) (desk r pen))

  module _ {r₁ : List ℕ} {p₁ : Pen} (a : desk r₁ p₁ ≡ exec (learning m held) (desk r pen)) where
    -- a pen that is cut stays cut
    uncut : {r₂ : List ℕ} {p₂ : Pen} → desk r₂ p₂ ≡ step_by (attempt_step m held) (desk r₁ p₁) → is_cut p₂ ≡ false → is_cut p₁ ≡ false
    unfolding step_by
    uncut {p₂ = p₂} b e =
        ⊎_elim (λ t. absurd (not-both (is_cut p₂) (ap (λ (d : Desk). is_cut d.pen) (b ∙ run-cut (attempt_step m held r₁) (desk r₁ p₁) t) ∙ t) e)) (λ f. f)
        (passes-or-fails (is_cut p₁))

    learned : is_cut p₁ ≡ false → r₁ ≡ after_c m held r
    unfolding after_c after
    learned e =
        let c = a ∙ exec-run (learning m held) (desk r pen) in
        ap (λ (d : Desk). d.rec) c ∙ run-uncut (script (learning m held) r) (desk r pen) (sym (ap (λ (d : Desk). is_cut d.pen) c) ∙ e)

    pub decide-chain : {r₂ : List ℕ} (x : Decided) → desk r₂ x.pen ≡ step_by (attempt_step m held) (desk r₁ p₁) → said (Ok x.answer) ≡ decision m held r₁
        → Decides m held r pen r₂ x
    unfolding decide_program decide_answer
    decide-chain x b s = record {
      stores = b ∙ ap (step_by (attempt_step m held)) a
          ∙ sym (exec-append (learning m held) (attempt_step m held ∷ []) (desk r pen) ∙ exec-one (attempt_step m held) (exec (learning m held) (desk r pen)));
      says = λ e. s ∙ ap (decision m held) (learned (uncut b e));
    }
