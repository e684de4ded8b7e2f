-- After every call with every budget recovery gives the record of the changes done; and a record that is not whole takes no call but recover.
use mathlib.Core.Bool.{Bool, true, false, cond, ◌&&◌}
use mathlib.Core.Logic.{⊎_elim}
use mathlib.Core.Path.{◌≡◌, refl, sym, ap, ◌∙◌}
use mathlib.Core.List.{List, [], ◌∷◌}
use Prim.Native.Nat.{ℕ, ◌≤◌, ◌<◌}
use native.Mathlib.Omega.{arith}
use lib.Dec.{eqb}
use lib.ListN.{length}
use borrow.Author.Tests.{eqb-true, eq-eqb, le-ltb}
use Rattle.loops.proofs.Laws.Truth.{cond-elim, and_both}
use Rattle.group.specs.Answers.{Said, recovered, entered, formed, refused}
use Rattle.store.specs.Desk.{Store, desk, budget, apply, is_cut}
use Rattle.store.specs.Program.{Step, exec, script}
use Rattle.store.specs.Changes.{Change, all_non_empty, all_stores, begun}
use Rattle.store.proofs.Laws.Program.{exec-take}
use Rattle.record.specs.Layout.{own}
use Rattle.record.specs.Whole.{whole}
use Rattle.recovery.specs.Recover.{mend_program, mended, mendable, recover_spec}
use Rattle.recovery.specs.Changes.{entry_change}
use Rattle.recovery.proofs.Laws.Still.{mended-whole}
use Rattle.recovery.proofs.Laws.Cut.{again, recovers-done}
use Rattle.recovery.proofs.Laws.Small.{entry-sound}
use Rattle.recovery.proofs.Laws.Call.{mend-short, ends-recovered}
use Rattle.recovery.proofs.Laws.Sounds.{sounds-one}
use Rattle.plan.specs.Decide.{decide_program, decide_answer}
use Rattle.plan.specs.Form.{form_step}
use Rattle.plan.proofs.Laws.Decide.{decide-cut}
use Rattle.plan.proofs.Laws.Form.{form-cut}
use Rattle.head.specs.declared.session.Session.{Session}
use Rattle.head.specs.Session.{no_session, opened, at_stage}
use Rattle.head.specs.Fits.{fits, usable}
use Rattle.head.specs.Refusals.{enter_refusal, hear_state_refusal, hear_attempt_refusal, decide_refusal, form_refusal, write_state_refusal, write_attempt_refusal}
use Rattle.head.specs.Calls.{Ended, under, stores, entry_step, decided_stage, refuses, writes, enter_spec, hear_state_spec, hear_attempt_spec, decide_spec, form_spec, write_state_spec, write_attempt_spec, enter_changes, decides_changes, forms_changes}
use Rattle.calls.specs.Statements as one
use Rattle.calls.proofs.Laws.Every.{no-empty-change}
use Rattle.head.proofs.Laws.Refusals.{may-enter, may-decide, may-form}
use Rattle.head.proofs.Laws.Fits.{usable-whole, make-usable, none-fits, make-fits}
use Rattle.history.specs.Setting.{Setting}
use Rattle.history.specs.Statement.{Head, running, World, Call, enter, hear-state, hear-attempt, decide, form, recover, write-state, write-attempt, call, leaves, back, changes, given, called, step, Given, History, more, AlwaysRecovers, NeverUnfit, RecoveryAlone}
use Rattle.history.proofs.Abstraction.{group_in}
use Rattle.history.proofs.Invariant.{reading, Runs, none-stage, put-here}
use Rattle.history.proofs.Calls.Ends.{lost-ok}
use Rattle.history.proofs.Calls.Begun.{none-begun}
use Rattle.history.proofs.Calls.Form.{is-forming, form-live}
use Rattle.history.proofs.Calls.Decide.{given_to}
use Rattle.history.proofs.Theorem.{runs-at, fine}

-- ---- a call and its changes

nothing-begun : (k : ℕ) (r : List ℕ) → r ≡ apply (begun k []) r
unfolding apply
nothing-begun k r = sym (ap (λ (a : List Store). apply a r) (none-begun k))

-- cut or not, a call that stores leaves the desk's record
stores_words : (fs : List Step) (r : List ℕ) (k : ℕ) (a : Said) (s : Session) → (stores fs r k a s).words ≡ (exec fs (desk r (budget k))).rec
unfolding stores under
stores_words fs r k a s = cond-elim (λ (o : Ended). o.words ≡ (exec fs (desk r (budget k))).rec) (is_cut (exec fs (desk r (budget k))).pen) _ _ (λ e. refl) (λ e. refl)

-- a call of document 01: refused, or the stores of its program, which are its changes
by-refusal : (n : ℕ) (fs : List Step) (r : List ℕ) (k : ℕ) (a : Said) (s s' : Session) (cs : List Change)
    → (n ≡ 0 → mended (exec fs (desk r (budget k))).rec ≡ apply (begun k cs) r) → (n ≡ 0 → whole r ≡ true)
    → mended (cond (eqb n 0) (stores fs r k a s) (refuses n r s')).words ≡ apply (begun k (cond (eqb n 0) cs [])) (mended r)
by-refusal n fs r k a s s' cs f g = go (eqb n 0) refl
  where
    go : (b : Bool) → eqb n 0 ≡ b → mended (cond b (stores fs r k a s) (refuses n r s')).words ≡ apply (begun k (cond b cs [])) (mended r)
    go true e =
        let z = eqb-true n 0 e in
        ap mended (stores_words fs r k a s) ∙ f z ∙ ap (apply (begun k cs)) (sym (mended-whole r (g z)))
    go false e = nothing-begun k (mended r)

entry-cut : (r : List ℕ) (v k : ℕ) → whole r ≡ true → v < 4294967296 → mended (exec (entry_step v ∷ []) (desk r (budget k))).rec ≡ apply (begun k (entry_change v ∷ [])) r
unfolding script all_stores entry_step entry_change
entry-cut r v k e h = ap mended (exec-take (entry_step v ∷ []) k r) ∙ recovers-done (entry_change v ∷ []) r (sounds-one (entry_change v) r (entry-sound r v e (omega arith))) k

module _ (S : Setting) (p k : ℕ) (r : List ℕ) (s : Session) (i : Runs S p r s) where
  enter-done : (v : ℕ) → v < 4294967296 → mended (enter_spec s r v (S.members v) k).words ≡ apply (begun k (enter_changes s r v (S.members v))) (mended r)
  unfolding enter_spec enter_changes
  enter-done v h =
      by-refusal (enter_refusal s r v (S.members v)) (entry_step v ∷ []) r k entered (opened (own r) v (S.members v)) s (entry_change v ∷ [])
      (λ z. entry-cut r v k (usable-whole s r (may-enter s r v (S.members v) z).fit) h) (λ z. usable-whole s r (may-enter s r v (S.members v) z).fit)

  form-done : mended (form_spec s r k).words ≡ apply (begun k (forms_changes s r)) (mended r)
  unfolding form_spec forms_changes
  form-done =
      by-refusal (form_refusal s r) (form_step s.members ∷ []) r k formed (at_stage s 4) s _
      (λ z. form-cut s.members r k (is-forming S p r s i (may-form s r z))) (λ z. (form-live S p r s i (may-form s r z)).good)

  decide-done : mended (decide_spec s r k).words ≡ apply (begun k (decides_changes s r)) (mended r)
  unfolding decide_spec decides_changes
  decide-done =
      by-refusal (decide_refusal s r) (decide_program s.members s.held) r k (decide_answer s.members s.held r) (at_stage s (decided_stage s r)) s _
      (λ z. decide-cut s.members s.held r k (given_to S (group_in S) (reading S) p [] r s i (may-decide s r z))) (λ z. usable-whole s r (may-decide s r z).fit)

  hear-state-same : (bytes : List ℕ) → (hear_state_spec s r bytes).words ≡ r
  unfolding hear_state_spec
  hear-state-same bytes = cond-elim (λ (o : Ended). o.words ≡ r) (eqb (hear_state_refusal s r bytes) 0) _ _ (λ e. refl) (λ e. refl)

  hear-attempt-same : (bytes : List ℕ) → (hear_attempt_spec s r bytes).words ≡ r
  unfolding hear_attempt_spec
  hear-attempt-same bytes = cond-elim (λ (o : Ended). o.words ≡ r) (eqb (hear_attempt_refusal s r bytes) 0) _ _ (λ e. refl) (λ e. refl)

  call-done : (W : World) (c : Call) → Given W c → mended (leaves S c k r s) ≡ apply (begun k (changes S c r s)) (mended r)
  call-done W (enter v) g = enter-done v g
  call-done W (hear-state b) g = ap mended (hear-state-same b) ∙ nothing-begun k (mended r)
  call-done W (hear-attempt b) g = ap mended (hear-attempt-same b) ∙ nothing-begun k (mended r)
  call-done W decide g = decide-done
  call-done W form g = form-done
  call-done W recover g = again r k ∙ nothing-begun k (mended r)
  call-done W (write-state out) g = nothing-begun k (mended r)
  call-done W (write-attempt out) g = nothing-begun k (mended r)

-- each change of a call stores something
changes-stored : (S : Setting) (r : List ℕ) (s : Session) (c : Call) → all_non_empty (changes S c r s) ≡ true
unfolding all_non_empty
changes-stored S r s (enter v) = no-empty-change (one.enter v (S.members v) 0) s r
changes-stored S r s (hear-state b) = refl
changes-stored S r s (hear-attempt b) = refl
changes-stored S r s decide = no-empty-change (one.decide 0) s r
changes-stored S r s form = no-empty-change (one.form 0) s r
changes-stored S r s recover = refl
changes-stored S r s (write-state out) = refl
changes-stored S r s (write-attempt out) = refl

-- ---- the statements

given-runs : (S : Setting) (p : ℕ) (lost : Bool) (r : List ℕ) (s : Session) → Runs S p r s → Runs S p r (given lost s)
given-runs S p true r s i = lost-ok S p r s i
given-runs S p false r s i = i

runs-mends : (S : Setting) (p : ℕ) (r : List ℕ) (s : Session) → Runs S p r s → mendable r ≡ true
unfolding mendable
runs-mends S p r s i = and_both (eqb (length r) 52) (whole (mended r)) (eq-eqb (length r) 52 i.long) i.sound

-- the record that a call leaves is its head's in a world of a history again, so recover does not refuse it
left-mends : (S : Setting) (W : World) → History S W → (p k : ℕ) (lost : Bool) (c : Call) → Given W c → (r : List ℕ) (s : Session) → W.head p ≡ running r s
    → mendable (leaves S c k r (given lost s)) ≡ true
unfolding step
left-mends S W h p k lost c g r s at =
    let x : List ℕ = leaves S c k r (given lost s) in
    let y : Session = back S c k r (given lost s) in
    let left : (step S (call p lost k c) W).head p ≡ running x y = ap (λ (a : Head). (called S p lost k c a W).head p) at ∙ put-here p (running x y) W.head in
    runs-mends S p x y (runs-at S (group_in S) (reading S) p (step S (call p lost k c) W) x y left (fine S (more (call p lost k c) g h)))

-- recovery that is not refused makes 49 stores at most
enough-stores : (x : List ℕ) → mendable x ≡ true → (j : ℕ) → 49 ≤ j → (recover_spec x j).answer ≡ recovered
unfolding recover_spec
enough-stores x e j h = rw (e, le-ltb j (length (script mend_program x)) (omega (arith, mend-short x)))

-- DEMAND 3, RECOVERY
pub recovers-proved : (S : Setting) → AlwaysRecovers S
recovers-proved S W h p k lost c g r s at =
    let i : Runs S p r s = runs-at S (group_in S) (reading S) p W r s at (fine S h) in
    record {
      stores = changes-stored S r (given lost s) c;
      done = call-done S p k r (given lost s) (given-runs S p lost r s i) W c g;
      again = again (leaves S c k r (given lost s));
      ends = λ j q. (ends-recovered (leaves S c k r (given lost s)) j q).0;
      enough = enough-stores (leaves S c k r (given lost s)) (left-mends S W h p k lost c g r s at);
    }

-- NOT MET BY REFUSING
pub never-unfit-proved : (S : Setting) → NeverUnfit S
never-unfit-proved S W h p r s at =
    let i : Runs S p r s = runs-at S (group_in S) (reading S) p W r s at (fine S h) in
    record {
      mends = runs-mends S p r s i;
      same = mended-whole r;
      own-fits = make-usable s (mended r) i.sound (⊎_elim (λ z. none-fits s (mended r) z) (λ v. ap (fits s) (mended-whole r v.good) ∙ make-fits s r v.fitting) i.session);
      none-fits = make-usable no_session (mended r) i.sound (none-fits no_session (mended r) none-stage);
    }

-- ---- a record that is not whole

module _ (r : List ℕ) (s : Session) (e : whole r ≡ false) where
  unusable : usable s r ≡ false
  unfolding usable
  unusable = ap (λ (b : Bool). b && fits s r) e

  enter-refused : (view m k : ℕ) → enter_spec s r view m k ≡ refuses 2 r s
  unfolding enter_spec enter_refusal
  enter-refused view m k = rw unusable

  hear-state-refused : (bytes : List ℕ) → hear_state_spec s r bytes ≡ refuses 2 r s
  unfolding hear_state_spec hear_state_refusal
  hear-state-refused bytes = rw unusable

  hear-attempt-refused : (bytes : List ℕ) → hear_attempt_spec s r bytes ≡ refuses 2 r s
  unfolding hear_attempt_spec hear_attempt_refusal
  hear-attempt-refused bytes = rw unusable

  decide-refused : (k : ℕ) → decide_spec s r k ≡ refuses 2 r s
  unfolding decide_spec decide_refusal
  decide-refused k = rw unusable

  form-refused : (k : ℕ) → form_spec s r k ≡ refuses 2 r s
  unfolding form_spec form_refusal
  form-refused k = rw unusable

  write-state-refused : (out : List ℕ) → write_state_spec s r out ≡ record { answer = refused 2; session = s; out = out }
  unfolding write_state_spec writes write_state_refusal
  write-state-refused out = rw unusable

  write-attempt-refused : (out : List ℕ) → write_attempt_spec s r out ≡ record { answer = refused 2; session = s; out = out }
  unfolding write_attempt_spec writes write_attempt_refusal
  write-attempt-refused out = rw unusable

-- NOTHING BUT RECOVERY
pub only-recovery-proved : RecoveryAlone
only-recovery-proved r s e = record {
  enter-is = enter-refused r s e;
  hear-state-is = hear-state-refused r s e;
  hear-attempt-is = hear-attempt-refused r s e;
  decide-is = decide-refused r s e;
  form-is = form-refused r s e;
  write-state-is = write-state-refused r s e;
  write-attempt-is = write-attempt-refused r s e;
}
