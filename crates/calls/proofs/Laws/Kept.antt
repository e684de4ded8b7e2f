-- Every call that is not cut leaves a whole record and a session that fits it. Refused, it leaves what it was given. Enter opens a session that fits the
-- record with its view; a hearing adds one sender, whose state keeps the rules; decide leaves a whole record with the attempt in a place, or closes; form leaves
-- the session of the view as last primary.
use mathlib.Core.Bool.{true, false, not}
use mathlib.Core.Logic.{⊎_elim}
use mathlib.Core.Path.{◌≡◌, refl, sym, subst, ◌∙◌}
use mathlib.Core.List.{List, [], ◌∷◌}
use Prim.Native.Nat.{ℕ, ◌≤◌, ◌<◌}
use native.Mathlib.Omega.{arith}
use lib.Dec.{eqb, lit<, lit≤}
use lib.ListN.{get_or, set, length-set, get_or-replicate}
use lib.Seq.{get_or-set_same, get_or-set_other}
use borrow.Author.Tests.{eq-eqb, eqb-true, eqb-false}
use Rattle.loops.proofs.Laws.Truth.{and_left, and_right, or_cases, or_left, passes-or-fails, not-true, not-both}
use Rattle.loops.proofs.Laws.Tests.{any-find, any_of}
use Rattle.group.specs.Heads.{has, either, only, within}
use Rattle.group.proofs.Laws.Heads.{has_either, has-only, within-at, within_of, only-lt, either_lt}
use Rattle.store.specs.Desk.{stored}
use Rattle.store.specs.Program.{after}
use Rattle.record.specs.Layout.{settings, own, entered, primary, place_at, store_entered}
use Rattle.record.specs.Whole.{whole}
use Rattle.record.proofs.Laws.Layout.{same-own, own-small, entered-stored}
use Rattle.record.proofs.Laws.Whole.{whole_length}
use Rattle.state.specs.declared.State.{State}
use Rattle.state.specs.Rules.{keeps_rules}
use Rattle.state.specs.Values.{no_state, nothing_held, Tidy}
use Rattle.plan.specs.Members.{absent, held_of, other}
use Rattle.plan.specs.Form.{view_session, form_step}
use Rattle.plan.specs.Attempt.{attempts}
use Rattle.plan.specs.Decide.{after_c, decide_program}
use Rattle.plan.specs.Statements.{Given, Forming}
use Rattle.plan.proofs.Laws.Decide.{decided}
use Rattle.plan.proofs.Laws.Form.{formed-reads, forms-primary, attempt-places}
use Rattle.head.specs.declared.session.Session.{Session}
use Rattle.head.specs.Session.{opened, with_state, with_attempt, at_stage}
use Rattle.fitting.specs.Fits.{placed}
use Rattle.head.specs.Calls.{decided_stage}
use Rattle.calls.specs.Statements.{Sized}
use Rattle.head.proofs.Laws.Fits.{Fitting}
use Rattle.head.proofs.Laws.Refusals.{MayHear}

-- ---- a head added to a set

only_at : (h j : ℕ) → has (only h) j ≡ true → j ≡ h
only_at h j e = sym (eqb-true h j (sym (has-only h j) ∙ e))

only_here : (h : ℕ) → has (only h) h ≡ true
only_here h = has-only h h ∙ eq-eqb h h refl

only-within : (h m : ℕ) → h < 16 → has m h ≡ true → within (only h) m ≡ true
only-within h m l e = within_of (only h) m (only-lt h l) (λ j k t. subst (λ (i : ℕ). has m i ≡ true) (sym (only_at h j t)) e)

added-was : (s x q : ℕ) → has (either s (only x)) q ≡ true → (q ≡ x → ⊥) → has s q ≡ true
added-was s x q e n =
    ⊎_elim (λ t. t) (λ t. absurd (n (only_at x q t))) (or_cases (has s q) (has (only x) q) (sym (has_either s (only x) q) ∙ e))

added-has : (s x q : ℕ) → has s q ≡ true → has (either s (only x)) q ≡ true
added-has s x q e = has_either s (only x) q ∙ or_left (has s q) (has (only x) q) e

added-within : (s x m : ℕ) → s < 65536 → x < 16 → within s m ≡ true → has m x ≡ true → within (either s (only x)) m ≡ true
added-within s x m b l w e =
    within_of (either s (only x)) m (either_lt s (only x) b (only-lt x l))
    (λ h k t.
    ⊎_elim
    (λ a. within-at s m w h a)
    (λ a. subst (λ (i : ℕ). has m i ≡ true) (sym (only_at x h a)) e)
    (or_cases (has s h) (has (only x) h) (sym (has_either s (only x) h) ∙ t)))

-- ---- enter

held_number : (q : ℕ) → q < 16 → (held_of nothing_held q).number < 4294967296
unfolding nothing_held no_state
held_number q l = subst (λ (st : State). st.number < 4294967296) (sym (get_or-replicate 16 q _ absent l)) (lit< tt)

module _ (r : List ℕ) (view m : ℕ) (w : whole r ≡ true) (e : has m (own r) ≡ true) (later : entered r < view) where
  abbrev pub entry_left : List ℕ
  entry_left = stored (store_entered view) r

  pub opened-fits : Fitting (opened (own r) view m) entry_left
  unfolding opened
  opened-fits =
      let s = entered-stored r (whole_length r w) view in
      let o : own entry_left ≡ own r = same-own entry_left r s.settings-is in
      record {
        view = sym s.entered-is;
        viewed = λ z. omega arith;
        mine = rw o e;
        states-within = only-within (own r) m (own-small r) e;
        attempts-within = only-within (own r) m (own-small r) e;
        own-state = rw o (only_here (own r));
        own-attempt = rw o (only_here (own r));
        kept = λ q l h n. absurd (n (only_at (own r) q h ∙ sym o));
        staged = lit≤ tt;
        decided = λ l. absurd (omega arith);
        attempted = λ z. absurd (omega arith);
        formed = λ z. absurd (omega arith);
        heard_all = λ z. absurd (omega arith);
      }

  pub opened-sized : m < 65536 → Sized (opened (own r) view m)
  unfolding opened nothing_held
  opened-sized b = record {
    members = b;
    states = only-lt (own r) (own-small r);
    attempts = only-lt (own r) (own-small r);
    slots = refl;
    numbers = held_number;
  }

-- ---- a line heard

-- while a member is not heard, decide has not been called: all states of M would be in
undecided : (s : Session) (r : List ℕ) (x : ℕ) → Fitting s r → has s.members x ≡ true → has s.states x ≡ false → 1 < s.stage → ⊥
undecided s r x f m u l = not-both (has s.states x) (subst (λ (h : ℕ). has h x ≡ true) (sym (f.decided l)) m) u

unformed : (s : Session) (r : List ℕ) (x : ℕ) → Fitting s r → has s.members x ≡ true → has s.attempts x ≡ false → s.stage ≡ 4 → ⊥
unformed s r x f m u z = not-both (has s.attempts x) (subst (λ (h : ℕ). has h x ≡ true) (sym (f.heard_all z)) m) u

module _ (s : Session) (r : List ℕ) (view x : ℕ) (f : Fitting s r) (z : Sized s) (b : x < 16) where
  module _ (st : State) (may : MayHear s r view x s.states) (good : keeps_rules st x ≡ true) where
    state-of : (q : ℕ) → q < 16 → has (either s.states (only x)) q ≡ true → (q ≡ own r → ⊥) → keeps_rules (get_or (set s.held.of x st) q absent) q ≡ true
    state-of q l h n =
        ⊎_elim
        (λ e.
        let same : q ≡ x = eqb-true q x e in
        subst (λ (i : ℕ). keeps_rules (get_or (set s.held.of x st) i absent) i ≡ true) (sym same)
        (rw (get_or-set_same s.held.of x st absent (omega (arith, z.slots))) good))
        (λ e.
        let apart = eqb-false q x e in
        rw (get_or-set_other s.held.of x q st absent apart) (f.kept q l (added-was s.states x q h apart) n))
        (passes-or-fails (eqb q x))

    pub heard-fits : Fitting (with_state s x st) r
    unfolding with_state placed
    heard-fits = record {
      view = f.view;
      viewed = f.viewed;
      mine = f.mine;
      states-within = added-within s.states x s.members z.states b f.states-within may.member;
      attempts-within = f.attempts-within;
      own-state = added-has s.states x (own r) f.own-state;
      own-attempt = f.own-attempt;
      kept = state-of;
      staged = f.staged;
      decided = λ l. absurd (undecided s r x f may.member may.unheard l);
      attempted = λ e. absurd (undecided s r x f may.member may.unheard (omega arith));
      formed = f.formed;
      heard_all = f.heard_all;
    }

    pub heard-sized : Tidy st → Sized (with_state s x st)
    unfolding with_state
    heard-sized t = record {
      members = z.members;
      states = either_lt s.states (only x) z.states (only-lt x b);
      attempts = z.attempts;
      slots = length-set s.held.of x st ∙ z.slots;
      numbers = λ q l.
          ⊎_elim
          (λ e.
          subst (λ (i : ℕ). (get_or (set s.held.of x st) i absent).number < 4294967296) (sym (eqb-true q x e))
          (rw (get_or-set_same s.held.of x st absent (omega (arith, z.slots))) t.number))
          (λ e. rw (get_or-set_other s.held.of x q st absent (eqb-false q x e)) (z.numbers q l))
          (passes-or-fails (eqb q x));
    }

  module _ (may : MayHear s r view x s.attempts) where
    pub attempt-fits : Fitting (with_attempt s x) r
    unfolding with_attempt placed
    attempt-fits = record {
      view = f.view;
      viewed = f.viewed;
      mine = f.mine;
      states-within = f.states-within;
      attempts-within = added-within s.attempts x s.members z.attempts b f.attempts-within may.member;
      own-state = f.own-state;
      own-attempt = added-has s.attempts x (own r) f.own-attempt;
      kept = f.kept;
      staged = f.staged;
      decided = f.decided;
      attempted = f.attempted;
      formed = f.formed;
      heard_all = λ e. absurd (unformed s r x f may.member may.unheard e);
    }

    pub attempt-sized : Sized (with_attempt s x)
    unfolding with_attempt
    attempt-sized = record {
      members = z.members;
      states = z.states;
      attempts = either_lt s.attempts (only x) z.attempts (only-lt x b);
      slots = z.slots;
      numbers = z.numbers;
    }

-- ---- a session at another stage, and a record of the same group and view

at-stage-fits : (s : Session) (r y : List ℕ) (n : ℕ) → Fitting s r → settings y ≡ settings r → entered y ≡ entered r → n ≤ 4
    → s.states ≡ s.members → (n ≡ 3 → placed s.members y ≡ true) → (n ≡ 4 → (primary y ≡ view_session s.members y) × (s.attempts ≡ s.members))
    → Fitting (at_stage s n) y
unfolding at_stage placed
at-stage-fits s r y n f g v l d a e =
    let o : own y ≡ own r = same-own y r g in
    record {
      view = f.view ∙ sym v;
      viewed = f.viewed;
      mine = rw o f.mine;
      states-within = f.states-within;
      attempts-within = f.attempts-within;
      own-state = rw o f.own-state;
      own-attempt = rw o f.own-attempt;
      kept = λ q b h t. f.kept q b h (λ z. t (z ∙ sym o));
      staged = l;
      decided = λ b. d;
      attempted = a;
      formed = λ z. (e z).0;
      heard_all = λ z. (e z).1;
    }

pub at-stage-sized : (s : Session) (n : ℕ) → Sized s → Sized (at_stage s n)
unfolding at_stage
at-stage-sized s n z = record { members = z.members; states = z.states; attempts = z.attempts; slots = z.slots; numbers = z.numbers }

module _ (s : Session) (r : List ℕ) (w : whole r ≡ true) (f : Fitting s r) (z : Sized s) where
  -- what decide is given
  pub decide-given : s.states ≡ s.members → Given s.members s.held r
  unfolding other
  decide-given d =
      let is-other : (q : ℕ) → other s.members r q ≡ true → (has s.states q ≡ true) × (q ≡ own r → ⊥) =
      λ q t. (
        subst (λ (m : ℕ). has m q ≡ true) (sym d) (and_left (has s.members q) (not (eqb q (own r))) t),
        eqb-false q (own r) (not-true _ (and_right (has s.members q) (not (eqb q (own r))) t)),
      ) in
      record {
        sound = w;
        members = z.members;
        among = f.mine;
        states = λ q l t. f.kept q l (is-other q t).0 (is-other q t).1;
        numbers = λ q l t. z.numbers q l;
      }

  pub decide-fits : s.states ≡ s.members → Fitting (at_stage s (decided_stage s r)) (after (decide_program s.members s.held) r)
  unfolding decided_stage placed
  decide-fits d =
      let m = s.members in
      let held = s.held in
      let g = decide-given d in
      let y = after (decide_program m held) r in
      let kept = decided m held r g in
      ⊎_elim
      (λ t.
      let made = attempt-places m held r g t in
      rw t
      (at-stage-fits s r y 3 f kept.same.group kept.same.view (lit≤ tt) d
      (λ e. any_of 16 (λ i. eqb (place_at y i) (view_session m y)) made.place made.below (eq-eqb _ _ made.placed))
      (λ e. absurd (omega arith))))
      (λ t.
      rw t
      (at-stage-fits s r y 2 f kept.same.group kept.same.view (lit≤ tt) d (λ e. absurd (omega arith)) (λ e. absurd (omega arith))))
      (passes-or-fails (attempts m held (after_c m held r)))

  -- what form is given
  pub form-given : s.stage ≡ 3 → Forming s.members r
  unfolding placed
  form-given e =
      let p = any-find 16 (λ i. eqb (place_at r i) (view_session s.members r)) (f.attempted e) in
      record { sound = w; members = z.members; among = f.mine; place = p.0; below = p.1; placed = eqb-true _ _ p.2 }

  pub form-fits : s.stage ≡ 3 → s.attempts ≡ s.members → Fitting (at_stage s 4) (after (form_step s.members ∷ []) r)
  form-fits e h =
      let m = s.members in
      let g = form-given e in
      let left = formed-reads m r g in
      at-stage-fits s r (after (form_step m ∷ []) r) 4 f left.settings-is left.entered-is (lit≤ tt) (f.decided (omega arith)) (λ a. absurd (omega arith))
      (λ a. (forms-primary m r g, h))
