-- The theorems over all calls, from what is shown of each: a call is refused and keeps all, or it is not and does what it is for; then it is cut or it is not.
use mathlib.Core.Bool.{Bool, true, false, not, cond}
use mathlib.Core.Logic.{⊎_elim}
use mathlib.Core.Path.{◌≡◌, refl, sym, ap, subst, ◌∙◌}
use mathlib.Core.List.{List, [], ◌∷◌, ◌++◌}
use Prim.Native.Nat.{ℕ, ◌<◌}
use native.Mathlib.Omega.{arith}
use lib.Dec.{eqb, leb}
use lib.ListN.{length, take, drop}
use lib.Seq.{take_all}
use borrow.Author.Tests.{eqb-true}
use Rattle.loops.proofs.Laws.Truth.{cond-elim, clash, passes-or-fails}
use Rattle.group.specs.Answers.{Said, started, recovered, entered, heard, attempted, no-quorum, numbers-run-out, no_place, formed, cut, written, refused}
use Rattle.store.specs.Desk.{Desk, Store, desk, budget, apply, stored, is_cut}
use Rattle.store.specs.Program.{Step, script, after, exec}
use Rattle.store.specs.Changes.{Change, non_empty, all_non_empty, all_stores, step_stores}
use Rattle.store.proofs.Laws.Script.{run-uncut}
use Rattle.store.proofs.Laws.Program.{exec-run, exec-take, after_one}
use Rattle.store.proofs.Laws.Changes.{changes-nonempty, steps-script, changes-script}
use Rattle.record.specs.Layout.{own, store_entered}
use Rattle.recovery.specs.Recover.{mended}
use Rattle.recovery.specs.Changes.{entry_change, form_change}
use Rattle.recovery.specs.Statements.{Sounds, Sounds.last as last}
use Rattle.recovery.proofs.Laws.Small.{entry-sound}
use Rattle.recovery.proofs.Laws.Sounds.{sounds-one}
use Rattle.recovery.proofs.Laws.Cut.{recovers-done}
use Rattle.state.specs.declared.Held.{Held}
use Rattle.lines.specs.Read.{Line, StateLine, AttemptLine, Broken}
use Rattle.lines.specs.Reading.{read_whole}
use Rattle.plan.specs.Attempt.{highest_number, quorate, lowest_free, decision}
use Rattle.plan.specs.Decide.{after_c, decide_program, decide_answer, decide_changes}
use Rattle.plan.specs.Form.{form_step, form_changes}
use Rattle.plan.proofs.Laws.Decide.{decide-sounds, decide-whole}
use Rattle.plan.proofs.Laws.Form.{form-sounds, form-whole}
use Rattle.head.specs.declared.session.Session.{Session}
use Rattle.head.specs.Session.{no_session, opened, with_state, with_attempt, at_stage}
use Rattle.head.specs.Fits.{usable}
use Rattle.head.specs.Refusals.{enter_refusal, hear_state_refusal, hear_attempt_refusal, decide_refusal, form_refusal, state_refusal, attempt_refusal, of_state_line, of_attempt_line}
use Rattle.head.specs.Calls.{Ended, refuses, under, stores, entry_step, heard_state, heard_attempt, decided_stage, enter_spec, hear_state_spec, hear_attempt_spec, decide_spec, form_spec, Wrote, writes, write_state_spec, write_attempt_spec, enter_changes, decides_changes, forms_changes}
use Rattle.calls.specs.Statements.{changes_by, stores_of, enter, hear-state, hear-attempt, decide, form, write-state, write-attempt, ending, writing, Good, RefusedKeeps, CutLeavesNone, KeptByEveryCall, StoresItsChanges, NoEmptyChange, SoundChanges, RecoversEveryCall}
use Rattle.head.proofs.Laws.Fits.{Fitting, make-usable, fits-parts, make-fits}
use Rattle.head.proofs.Laws.Refusals.{MayEnter, MayDecide, MayForm, may-enter, may-hear-state, may-hear-attempt, may-decide, may-form}
use Rattle.head.proofs.Laws.Hearing.{state-kept, attempt-kept, hear-state-reads, hear-attempt-reads}
use Rattle.calls.proofs.Laws.Kept.{opened-fits, opened-sized, heard-fits, heard-sized, attempt-fits, attempt-sized, at-stage-sized, decide-given, decide-fits, form-given, form-fits}

-- ---- the answers apart

-- an answer that neither refuses nor is cut
abbrev plain : Said → Bool
plain started = true
plain recovered = true
plain entered = true
plain heard = true
plain attempted = true
plain no-quorum = true
plain numbers-run-out = true
plain no_place = true
plain formed = true
plain (written n) = true
plain cut = false
plain (refused n) = false

not-refused : (a : Said) (n : ℕ) → plain a ≡ true → a ≡ refused n → ⊥
not-refused a n p e = clash (sym p ∙ ap plain e)

not-cut : (a : Said) → plain a ≡ true → a ≡ cut → ⊥
not-cut a p e = clash (sym p ∙ ap plain e)

refused-not-cut : (n : ℕ) → refused n ≡ cut → ⊥
refused-not-cut n e = let z : ◌≡◌ {A = ℕ} 0 1 = cc in omega arith

decided-plain : (m : ℕ) (held : Held) (r : List ℕ) → plain (decide_answer m held r) ≡ true
unfolding decide_answer decision
decided-plain m held r =
    let x = after_c m held r in
    cond-elim (λ (a : Said). plain a ≡ true) (not (quorate m held x)) _ _ (λ a. refl)
    (λ a.
    cond-elim (λ (a : Said). plain a ≡ true) (leb 4294967295 (highest_number m held x)) _ _ (λ b. refl)
    (λ b. cond-elim (λ (a : Said). plain a ≡ true) (leb 16 (lowest_free x)) _ _ (λ c. refl) (λ c. refl)))

-- ---- a call refused or not, and its stores cut or not

by-refusal : {A : Type 0} (P : A → Type 0) (n : ℕ) (done kept : A) → (n ≡ 0 → P done) → P kept → P (cond (eqb n 0) done kept)
by-refusal P n done kept f g = cond-elim P (eqb n 0) done kept (λ e. f (eqb-true n 0 e)) (λ e. g)

exec-uncut : (fs : List Step) (k : ℕ) (r : List ℕ) → is_cut (exec fs (desk r (budget k))).pen ≡ false → (exec fs (desk r (budget k))).rec ≡ after fs r
unfolding after
exec-uncut fs k r e =
    let same = exec-run fs (desk r (budget k)) in
    ap (λ (d : Desk). d.rec) same ∙ run-uncut (script fs r) (desk r (budget k)) (sym (ap (λ (d : Desk). is_cut d.pen) same) ∙ e)

module _ (program : List Step) (r : List ℕ) (k : ℕ) (answer : Said) (s : Session) where
  by-cut : (P : Ended → Type 0) → P (record { answer = cut; words = (exec program (desk r (budget k))).rec; session = no_session })
      → P (record { answer = answer; words = after program r; session = s }) → P (stores program r k answer s)
  unfolding stores under
  by-cut P f g =
      cond-elim P _ _ _ (λ e. f)
      (λ e. subst (λ (x : List ℕ). P (record { answer = answer; words = x; session = s })) (sym (exec-uncut program k r e)) g)

  stores_words : (stores program r k answer s).words ≡ (exec program (desk r (budget k))).rec
  unfolding stores under
  stores_words = cond-elim (λ (e : Ended). e.words ≡ (exec program (desk r (budget k))).rec) (is_cut (exec program (desk r (budget k))).pen) _ _ (λ e. refl) (λ e. refl)

-- what holds of a call where it is refused, and where it is not, holds of the call
module _ (P : Ended → Type 0) (s : Session) (r : List ℕ) where
  by-enter : (view m k : ℕ) → (enter_refusal s r view m ≡ 0 → P (stores (entry_step view ∷ []) r k entered (opened (own r) view m)))
      → P (refuses (enter_refusal s r view m) r s) → P (enter_spec s r view m k)
  unfolding enter_spec
  by-enter view m k f g = by-refusal P (enter_refusal s r view m) _ _ f g

  by-hear-state : (line : List ℕ) → (hear_state_refusal s r line ≡ 0 → P (record { answer = heard; words = r; session = heard_state s (read_whole line).line (read_whole line).state }))
      → P (refuses (hear_state_refusal s r line) r s) → P (hear_state_spec s r line)
  unfolding hear_state_spec
  by-hear-state line f g = by-refusal P (hear_state_refusal s r line) _ _ f g

  by-hear-attempt : (line : List ℕ) → (hear_attempt_refusal s r line ≡ 0 → P (record { answer = heard; words = r; session = heard_attempt s (read_whole line).line }))
      → P (refuses (hear_attempt_refusal s r line) r s) → P (hear_attempt_spec s r line)
  unfolding hear_attempt_spec
  by-hear-attempt line f g = by-refusal P (hear_attempt_refusal s r line) _ _ f g

  by-decide : (k : ℕ)
      → (decide_refusal s r ≡ 0 → P (stores (decide_program s.members s.held) r k (decide_answer s.members s.held r) (at_stage s (decided_stage s r))))
      → P (refuses (decide_refusal s r) r s) → P (decide_spec s r k)
  unfolding decide_spec
  by-decide k f g = by-refusal P (decide_refusal s r) _ _ f g

  by_form : (k : ℕ) → (form_refusal s r ≡ 0 → P (stores (form_step s.members ∷ []) r k formed (at_stage s 4))) → P (refuses (form_refusal s r) r s) → P (form_spec s r k)
  unfolding form_spec
  by_form k f g = by-refusal P (form_refusal s r) _ _ f g

by-writes : (P : Wrote → Type 0) (s : Session) (m : ℕ) (text out : List ℕ) → P (record { answer = written (length text); session = s; out = text ++ drop (length text) out })
    → P (record { answer = refused m; session = s; out = out }) → P (writes m s text out)
unfolding writes
by-writes P s m text out f g = by-refusal P m _ _ (λ z. f) g

-- ---- "Record, session and output buffer keep their contents."

same_number : (m n : ℕ) → refused m ≡ refused n → m ≡ n
same_number m n e = cc

module _ (s : Session) (r : List ℕ) (n : ℕ) where
  abbrev Keeps : Ended → Type 0
  Keeps e = e.answer ≡ refused n → e ≡ refuses n r s

  refuses-keeps : (m : ℕ) → Keeps (refuses m r s)
  refuses-keeps m e = ap (λ (i : ℕ). refuses i r s) (same_number m n e)

  stores-keeps : (program : List Step) (k : ℕ) (answer : Said) (t : Session) → plain answer ≡ true → Keeps (stores program r k answer t)
  stores-keeps program k answer t p =
      by-cut program r k answer t Keeps (λ e. absurd (refused-not-cut n (sym e))) (λ e. absurd (not-refused answer n p e))

  heard-keeps : (t : Session) → Keeps (record { answer = heard; words = r; session = t })
  heard-keeps t e = absurd (not-refused heard n refl e)

  writes-keeps : (m : ℕ) (text out : List ℕ) → (writes m s text out).answer ≡ refused n → writes m s text out ≡ record { answer = refused n; session = s; out = out }
  writes-keeps m text out =
      by-writes (λ (w : Wrote). w.answer ≡ refused n → w ≡ record { answer = refused n; session = s; out = out }) s m text out
      (λ e. absurd (not-refused (written (length text)) n refl e))
      (λ e. ap (λ (i : ℕ). record { answer = refused i; session = s; out = out }) (same_number m n e))

pub refused-keeps : RefusedKeeps
unfolding write_state_spec write_attempt_spec
refused-keeps (enter view m k) s r n e =
    ap ending (by-enter (Keeps s r n) s r view m k (λ z. stores-keeps s r n _ k entered _ refl) (refuses-keeps s r n _) e)
refused-keeps (hear-state line) s r n e = ap ending (by-hear-state (Keeps s r n) s r line (λ z. heard-keeps s r n _) (refuses-keeps s r n _) e)
refused-keeps (hear-attempt line) s r n e = ap ending (by-hear-attempt (Keeps s r n) s r line (λ z. heard-keeps s r n _) (refuses-keeps s r n _) e)
refused-keeps (decide k) s r n e =
    ap ending (by-decide (Keeps s r n) s r k (λ z. stores-keeps s r n _ k _ _ (decided-plain s.members s.held r)) (refuses-keeps s r n _) e)
refused-keeps (form k) s r n e = ap ending (by_form (Keeps s r n) s r k (λ z. stores-keeps s r n _ k formed _ refl) (refuses-keeps s r n _) e)
refused-keeps (write-state out) s r n e = ap (writing r) (writes-keeps s r n _ _ out e)
refused-keeps (write-attempt out) s r n e = ap (writing r) (writes-keeps s r n _ _ out e)

-- ---- "cut" and no session

abbrev EndsNone : Ended → Type 0
EndsNone e = e.answer ≡ cut → e.session ≡ no_session

stores-none : (program : List Step) (r : List ℕ) (k : ℕ) (answer : Said) (t : Session) → plain answer ≡ true → EndsNone (stores program r k answer t)
stores-none program r k answer t p = by-cut program r k answer t EndsNone (λ e. refl) (λ e. absurd (not-cut answer p e))

refuses-none : (m : ℕ) (r : List ℕ) (s : Session) → EndsNone (refuses m r s)
refuses-none m r s e = absurd (refused-not-cut m e)

writes-not-cut : (s : Session) (m : ℕ) (text out : List ℕ) → (writes m s text out).answer ≡ cut → ⊥
writes-not-cut s m text out = by-writes (λ (w : Wrote). w.answer ≡ cut → ⊥) s m text out (not-cut (written (length text)) refl) (refused-not-cut m)

pub cut-leaves-none : CutLeavesNone
unfolding write_state_spec write_attempt_spec
cut-leaves-none (enter view m k) s r = by-enter EndsNone s r view m k (λ z. stores-none _ r k entered _ refl) (refuses-none _ r s)
cut-leaves-none (hear-state line) s r = by-hear-state EndsNone s r line (λ z e. absurd (not-cut heard refl e)) (refuses-none _ r s)
cut-leaves-none (hear-attempt line) s r = by-hear-attempt EndsNone s r line (λ z e. absurd (not-cut heard refl e)) (refuses-none _ r s)
cut-leaves-none (decide k) s r = by-decide EndsNone s r k (λ z. stores-none _ r k _ _ (decided-plain s.members s.held r)) (refuses-none _ r s)
cut-leaves-none (form k) s r = by_form EndsNone s r k (λ z. stores-none _ r k formed _ refl) (refuses-none _ r s)
cut-leaves-none (write-state out) s r = λ e. absurd (writes-not-cut s _ _ out e)
cut-leaves-none (write-attempt out) s r = λ e. absurd (writes-not-cut s _ _ out e)

-- ---- kept by every call

abbrev EndsGood : Ended → Type 0
EndsGood e = (e.answer ≡ cut → ⊥) → Good e.session e.words

stores-good : (program : List Step) (r : List ℕ) (k : ℕ) (answer : Said) (t : Session) → Good t (after program r) → EndsGood (stores program r k answer t)
stores-good program r k answer t h = by-cut program r k answer t EndsGood (λ n. absurd (n refl)) (λ n. h)

module _ (s : Session) (r : List ℕ) (g : Good s r) where
  fitting : (s.stage ≡ 0 → ⊥) → Fitting s r
  fitting n = fits-parts s r g.fit n

  enter-good : (view m : ℕ) → view < 4294967296 → m < 65536 → MayEnter s r view m → Good (opened (own r) view m) (after (entry_step view ∷ []) r)
  unfolding entry_step entry_change apply
  enter-good view m b c may =
      let e : after (entry_step view ∷ []) r ≡ stored (store_entered view) r = after_one (entry_step view) r in
      rw e (record {
        sound = (entry-sound r view g.sound (omega arith)).after;
        fit = make-fits _ _ (opened-fits r view m g.sound may.mine may.later);
        sized = opened-sized r view m g.sound may.mine may.later c;
      })

  decide-good : MayDecide s r → Good (at_stage s (decided_stage s r)) (after (decide_program s.members s.held) r)
  decide-good may =
      let f = fitting (λ z. omega (arith, may.undecided)) in
      let h = decide-given s r g.sound f g.sized may.all-heard in
      record {
        sound = decide-whole s.members s.held r h;
        fit = make-fits _ _ (decide-fits s r g.sound f g.sized may.all-heard);
        sized = at-stage-sized s _ g.sized;
      }

  form-good : MayForm s r → Good (at_stage s 4) (after (form_step s.members ∷ []) r)
  form-good may =
      let f = fitting (λ z. omega (arith, may.attempted)) in
      record {
        sound = form-whole s.members r (form-given s r g.sound f g.sized may.attempted);
        fit = make-fits _ _ (form-fits s r g.sound f g.sized may.attempted may.all-heard);
        sized = at-stage-sized s 4 g.sized;
      }

  hear-state-good : (line : List ℕ) (v x : ℕ) → (read_whole line).line ≡ StateLine v x → state_refusal s r v x ≡ 0 → Good (with_state s x (read_whole line).state) r
  hear-state-good line v x e z =
      let may = may-hear-state s r v x z in
      let k = state-kept line v x e in
      let f = fitting may.opened in
      record {
        sound = g.sound;
        fit = make-fits _ _ (heard-fits s r v x f g.sized k.head.sender (read_whole line).state may k.rules);
        sized = heard-sized s r v x f g.sized k.head.sender (read_whole line).state may k.rules k.tidy;
      }

  hear-attempt-good : (line : List ℕ) (v x : ℕ) → (read_whole line).line ≡ AttemptLine v x → attempt_refusal s r v x ≡ 0 → Good (with_attempt s x) r
  hear-attempt-good line v x e z =
      let may = (may-hear-attempt s r v x z).0 in
      let k = attempt-kept line v x e in
      let f = fitting may.opened in
      record {
        sound = g.sound;
        fit = make-fits _ _ (attempt-fits s r v x f g.sized k.sender may);
        sized = attempt-sized s r v x f g.sized k.sender may;
      }

  -- a line of the other kind is refused, so of no other line is there anything to show
  state-line-good : (line : List ℕ) (l : Line) → (read_whole line).line ≡ l → of_state_line s r l ≡ 0 → Good (heard_state s l (read_whole line).state) r
  state-line-good line (StateLine v x) e z = hear-state-good line v x e z
  state-line-good line (AttemptLine v x) e z = absurd (omega arith)
  state-line-good line (Broken k) e z = absurd (omega arith)

  attempt-line-good : (line : List ℕ) (l : Line) → (read_whole line).line ≡ l → of_attempt_line s r l ≡ 0 → Good (heard_attempt s l) r
  attempt-line-good line (StateLine v x) e z = absurd (omega arith)
  attempt-line-good line (AttemptLine v x) e z = hear-attempt-good line v x e z
  attempt-line-good line (Broken k) e z = absurd (omega arith)

  fit : usable s r ≡ true
  fit = make-usable s r g.sound g.fit

  writes-good : (m : ℕ) (text out : List ℕ) → Good (writes m s text out).session r
  writes-good m text out = by-writes (λ (w : Wrote). Good w.session r) s m text out g g

pub kept-by-every-call : KeptByEveryCall
unfolding write_state_spec write_attempt_spec
kept-by-every-call (enter view m k) s r b g =
    by-enter EndsGood s r view m k (λ z. stores-good _ r k entered _ (enter-good s r g view m b.0 b.1 (may-enter s r view m z))) (λ n. g)
kept-by-every-call (hear-state line) s r b g =
    by-hear-state EndsGood s r line (λ z n. state-line-good s r g line _ refl (sym (hear-state-reads s r line (fit s r g)) ∙ z)) (λ n. g)
kept-by-every-call (hear-attempt line) s r b g =
    by-hear-attempt EndsGood s r line (λ z n. attempt-line-good s r g line _ refl (sym (hear-attempt-reads s r line (fit s r g)) ∙ z)) (λ n. g)
kept-by-every-call (decide k) s r b g = by-decide EndsGood s r k (λ z. stores-good _ r k _ _ (decide-good s r g (may-decide s r z))) (λ n. g)
kept-by-every-call (form k) s r b g = by_form EndsGood s r k (λ z. stores-good _ r k formed _ (form-good s r g (may-form s r z))) (λ n. g)
kept-by-every-call (write-state out) s r b g = λ n. writes-good s r g _ _ out
kept-by-every-call (write-attempt out) s r b g = λ n. writes-good s r g _ _ out

-- ---- a call's stores are its changes

module _ (r : List ℕ) (k : ℕ) where
  nothing_stored : r ≡ apply (take k []) r
  unfolding apply
  nothing_stored = ap (λ (a : List Store). apply a r) (sym (take_all k [] (omega arith)))

  stores-changes : (s : Session) (m : ℕ) (program : List Step) (answer : Said) (t : Session) (cs : List Change) → all_stores cs ≡ script program r
      → (cond (eqb m 0) (stores program r k answer t) (refuses m r s)).words ≡ apply (take k (all_stores (cond (eqb m 0) cs []))) r
  unfolding all_stores
  stores-changes s m program answer t cs e =
      ⊎_elim
      (λ z. rw z (stores_words program r k answer t ∙ exec-take program k r ∙ ap (λ (a : List Store). apply (take k a) r) (sym e)))
      (λ z. rw z nothing_stored)
      (passes-or-fails (eqb m 0))

-- a call that stores nothing has no change
abbrev StandsStill : List ℕ → Ended → Type 0
StandsStill r e = e.words ≡ apply (take 0 (all_stores [])) r

still : (r : List ℕ) → r ≡ apply (take 0 (all_stores [])) r
unfolding all_stores apply
still r = refl

pub stores-its-changes : StoresItsChanges
unfolding enter_spec decide_spec form_spec enter_changes decides_changes forms_changes decide_changes form_changes entry_step step_stores
stores-its-changes (enter view m k) s r =
    stores-changes r k s (enter_refusal s r view m) (entry_step view ∷ []) entered (opened (own r) view m) (entry_change view ∷ []) (steps-script (entry_step view ∷ []) r)
stores-its-changes (hear-state line) s r = by-hear-state (StandsStill r) s r line (λ z. still r) (still r)
stores-its-changes (hear-attempt line) s r = by-hear-attempt (StandsStill r) s r line (λ z. still r) (still r)
stores-its-changes (decide k) s r =
    let m = s.members in
    let held = s.held in
    stores-changes r k s (decide_refusal s r) (decide_program m held) (decide_answer m held r) (at_stage s (decided_stage s r)) (decide_changes m held r)
    (changes-script (decide_program m held) r)
stores-its-changes (form k) s r =
    let m = s.members in
    stores-changes r k s (form_refusal s r) (form_step m ∷ []) formed (at_stage s 4) (form_changes m r) (steps-script (form_step m ∷ []) r)
stores-its-changes (write-state out) s r = still r
stores-its-changes (write-attempt out) s r = still r

pub no-empty-change : NoEmptyChange
unfolding all_non_empty non_empty enter_changes decides_changes forms_changes entry_change decide_changes form_changes form_step form_change
no-empty-change (enter view m k) s r = by-refusal (λ (cs : List Change). all_non_empty cs ≡ true) (enter_refusal s r view m) _ _ (λ z. refl) refl
no-empty-change (hear-state line) s r = refl
no-empty-change (hear-attempt line) s r = refl
no-empty-change (decide k) s r =
    by-refusal (λ (cs : List Change). all_non_empty cs ≡ true) (decide_refusal s r) _ _ (λ z. changes-nonempty (decide_program s.members s.held) r) refl
no-empty-change (form k) s r = by-refusal (λ (cs : List Change). all_non_empty cs ≡ true) (form_refusal s r) _ _ (λ z. refl) refl
no-empty-change (write-state out) s r = refl
no-empty-change (write-attempt out) s r = refl

pub sound-changes : SoundChanges
unfolding enter_changes decides_changes forms_changes
sound-changes (enter view m k) s r b g =
    by-refusal (λ (cs : List Change). Sounds cs r) (enter_refusal s r view m) _ _
    (λ z. sounds-one (entry_change view) r (entry-sound r view g.sound (omega (arith, b.0)))) (last g.sound)
sound-changes (hear-state line) s r b g = last g.sound
sound-changes (hear-attempt line) s r b g = last g.sound
sound-changes (decide k) s r b g =
    by-refusal (λ (cs : List Change). Sounds cs r) (decide_refusal s r) _ _
    (λ z.
    let may = may-decide s r z in
    decide-sounds s.members s.held r (decide-given s r g.sound (fitting s r g (λ n. omega (arith, may.undecided))) g.sized may.all-heard))
    (last g.sound)
sound-changes (form k) s r b g =
    by-refusal (λ (cs : List Change). Sounds cs r) (form_refusal s r) _ _
    (λ z.
    let may = may-form s r z in
    form-sounds s.members r (form-given s r g.sound (fitting s r g (λ n. omega (arith, may.attempted))) g.sized may.attempted))
    (last g.sound)
sound-changes (write-state out) s r b g = last g.sound
sound-changes (write-attempt out) s r b g = last g.sound

-- ---- "The recovered record is the one after the done changes."

pub recovers-every-call : RecoversEveryCall
recovers-every-call c s r b g = ap mended (stores-its-changes c s r) ∙ recovers-done (changes_by c s r) r (sound-changes c s r b g) (stores_of c)
