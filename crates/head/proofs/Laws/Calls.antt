-- Each call that stores by its outcomes: refused, it leaves all as it stood; not refused, it does what it is for.
use mathlib.Core.Bool.{true, false, cond}
use mathlib.Core.Logic.{⊎_elim}
use mathlib.Core.Path.{◌≡◌, refl, sym, ap, ◌∙◌}
use mathlib.Core.List.{List}
use Prim.Native.Nat.{ℕ}
use lib.Dec.{eqb}
use Rattle.loops.proofs.Laws.Truth.{passes-or-fails, not-both}
use Rattle.group.specs.declared.answers.Refusal.{Refusal}
use Rattle.group.specs.declared.answers.Refusal.TheVariants.{Group, Record, Line, Stranger, OldView, NoSession, OtherView, Heard, Missing, Decided, Undecided, Closed, Short}
use Rattle.group.specs.Answers.{Said, refusal_number, entered, attempted, cut}
use Rattle.store.specs.Desk.{Desk, desk, budget, put_to, run, is_cut}
use Rattle.store.specs.Program.{exec, step_by}
use Rattle.record.specs.Layout.{own, store_entered}
use Rattle.recovery.specs.Changes.{entry_change}
use Rattle.plan.specs.Attempt.{attempts}
use Rattle.plan.specs.Decide.{after_c, decide_program, decide_answer}
use Rattle.plan.proofs.Laws.Attempt.{attempts-attempted, attempted-attempts}
use Rattle.head.specs.declared.session.Session.{Session}
use Rattle.head.specs.Session.{no_session, opened, at_stage}
use Rattle.head.specs.Refusals.{enter_refusal, decide_refusal}
use Rattle.head.specs.Calls.{under, stores, entry_step, enter_spec, decided_stage, decide_spec}

-- a refusal has a number that is not 0
pub some_number : (why : Refusal) → eqb (refusal_number why) 0 ≡ false
some_number Group = refl
some_number Record = refl
some_number Line = refl
some_number Stranger = refl
some_number OldView = refl
some_number NoSession = refl
some_number OtherView = refl
some_number Heard = refl
some_number Missing = refl
some_number Decided = refl
some_number Undecided = refl
some_number Closed = refl
some_number Short = refl

-- what stands behind the refusal number of a call that is not refused
pub allowed-by : {A : Type 0} (n : ℕ) (done kept : A) → n ≡ 0 → cond (eqb n 0) done kept ≡ done
allowed-by n done kept e = rw e

-- what is left at the desk of a call that is cut, and of one that is not
pub under-cut : (d : Desk) (a : Said) (s : Session) → is_cut d.pen ≡ true → under d a s ≡ record { answer = cut; words = d.rec; session = no_session }
unfolding under
under-cut d a s e = rw e

pub under-made : (d : Desk) (a : Said) (s : Session) → is_cut d.pen ≡ false → under d a s ≡ record { answer = a; words = d.rec; session = s }
unfolding under
under-made d a s e = rw e

module _ (s : Session) (r : List ℕ) (view m k : ℕ) where
  pub enter-done : (d : Desk) → enter_refusal s r view m ≡ 0 → d ≡ put_to (store_entered view) (desk r (budget k)) → enter_spec s r view m k ≡ under d entered (opened (own r) view m)
  unfolding enter_spec stores exec step_by entry_step entry_change run
  enter-done d e f = allowed-by (enter_refusal s r view m) _ _ e ∙ rw f

-- a cut says nothing of the answer, nor of the session that would have been
under_same : (d : Desk) (a b : Said) (x y : Session) → (is_cut d.pen ≡ false → (a ≡ b) × (x ≡ y)) → under d a x ≡ under d b y
unfolding under
under_same d a b x y f =
    ⊎_elim
    (λ t. rw t)
    (λ t. let g = f t in rw (t, g.0, g.1))
    (passes-or-fails (is_cut d.pen))

module _ (s : Session) (r : List ℕ) where
  -- the stage of a session whose decide answered
  decided-stage : (answer : Said) (stage : ℕ) → answer ≡ decide_answer s.members s.held r
      → (answer ≡ attempted → stage ≡ 3) → ((answer ≡ attempted → ⊥) → stage ≡ 2) → stage ≡ decided_stage s r
  unfolding decided_stage decide_answer
  decided-stage answer stage e f g =
      let x = after_c s.members s.held r in
      ⊎_elim
      (λ t. f (e ∙ attempts-attempted s.members s.held x t) ∙ rw t)
      (λ t. g (λ a. not-both _ (attempted-attempts s.members s.held x (sym e ∙ a)) t) ∙ rw t)
      (passes-or-fails (attempts s.members s.held x))

  module _ (k : ℕ) where
    pub decide-done : (d : Desk) (answer : Said) (stage : ℕ) → decide_refusal s r ≡ 0
        → d ≡ exec (decide_program s.members s.held) (desk r (budget k))
        → (is_cut d.pen ≡ false → answer ≡ decide_answer s.members s.held r)
        → (answer ≡ attempted → stage ≡ 3)
        → ((answer ≡ attempted → ⊥) → stage ≡ 2)
        → under d answer (at_stage s stage) ≡ decide_spec s r k
    unfolding decide_spec stores
    decide-done d answer stage e f says g h =
        sym
        (allowed-by (decide_refusal s r) _ _ e
        ∙ rw (← f)
        (under_same d _ _ _ _ (λ t. (sym (says t), ap (at_stage s) (sym (decided-stage answer stage (says t) g h))))))
