-- A call that is not refused passed every test of its refusals, in their order.
use mathlib.Core.Bool.{Bool, true, false, not, cond, ◌||◌}
use mathlib.Core.Path.{◌≡◌, refl}
use mathlib.Core.List.{List}
use Prim.Native.Nat.{ℕ, ◌≤◌, ◌<◌}
use native.Mathlib.Omega.{arith}
use lib.Dec.{eqb, leb, ltb, lit<}
use borrow.Author.Tests.{eqb-true, eqb-false, leb-false, ltb-false}
use Rattle.loops.proofs.Laws.Truth.{or-none}
use Rattle.group.specs.Heads.{has}
use Rattle.record.specs.Layout.{own, entered}
use Rattle.head.specs.declared.session.Session.{Session}
use Rattle.head.specs.Fits.{usable}
use Rattle.head.specs.Refusals.{enter_refusal, state_refusal, attempt_refusal, decide_refusal, form_refusal, write_state_refusal, write_attempt_refusal}
use Rattle.head.proofs.Laws.Fits.{usable-stage}

spared : (b : Bool) (n k : ℕ) → 0 < n → cond b n k ≡ 0 → (b ≡ false) × (k ≡ 0)
spared true n k l e = absurd (omega arith)
spared false n k l e = (refl, e)

spared-not : (b : Bool) (n k : ℕ) → 0 < n → cond (not b) n k ≡ 0 → (b ≡ true) × (k ≡ 0)
spared-not true n k l e = (refl, e)
spared-not false n k l e = absurd (omega arith)

pub record MayEnter (s : Session) (r : List ℕ) (view m : ℕ) : Type 0 where
  pub fit : usable s r ≡ true
  pub mine : has m (own r) ≡ true
  pub later : entered r < view

pub record MayHear (s : Session) (r : List ℕ) (view x heard : ℕ) : Type 0 where
  pub opened : s.stage ≡ 0 → ⊥
  pub same_view : view ≡ s.view
  pub member : has s.members x ≡ true
  pub unheard : has heard x ≡ false
  pub another : x ≡ own r → ⊥

pub record MayDecide (s : Session) (r : List ℕ) : Type 0 where
  pub fit : usable s r ≡ true
  pub undecided : s.stage ≡ 1
  pub all-heard : s.states ≡ s.members

pub record MayForm (s : Session) (r : List ℕ) : Type 0 where
  pub fit : usable s r ≡ true
  pub attempted : s.stage ≡ 3
  pub all-heard : s.attempts ≡ s.members

pub record MayWriteState (s : Session) (r : List ℕ) (room : ℕ) : Type 0 where
  pub fit : usable s r ≡ true
  pub undecided : s.stage ≡ 1
  pub long : 419 ≤ room

pub record MayWriteAttempt (s : Session) (r : List ℕ) (room : ℕ) : Type 0 where
  pub fit : usable s r ≡ true
  pub attempted : 3 ≤ s.stage
  pub long : 13 ≤ room

module _ (s : Session) (r : List ℕ) where
  pub may-enter : (view m : ℕ) → enter_refusal s r view m ≡ 0 → MayEnter s r view m
  unfolding enter_refusal
  may-enter view m e =
      let a = spared-not (usable s r) 2 _ (lit< tt) e in
      let b = spared-not (has m (own r)) 4 _ (lit< tt) a.1 in
      let c = spared (leb view (entered r)) 5 0 (lit< tt) b.1 in
      record { fit = a.0; mine = b.0; later = leb-false view (entered r) c.0 }

  pub may-hear-state : (view x : ℕ) → state_refusal s r view x ≡ 0 → MayHear s r view x s.states
  unfolding state_refusal
  may-hear-state view x e =
      let a = spared (eqb s.stage 0) 6 _ (lit< tt) e in
      let b = spared-not (eqb view s.view) 7 _ (lit< tt) a.1 in
      let c = spared-not (has s.members x) 4 _ (lit< tt) b.1 in
      let d = spared (has s.states x || eqb x (own r)) 8 0 (lit< tt) c.1 in
      let n = or-none (has s.states x) (eqb x (own r)) d.0 in
      record { opened = eqb-false _ _ a.0; same_view = eqb-true _ _ b.0; member = c.0; unheard = n.0; another = eqb-false _ _ n.1 }

  pub may-hear-attempt : (view x : ℕ) → attempt_refusal s r view x ≡ 0 → MayHear s r view x s.attempts × (s.stage ≡ 2 → ⊥)
  unfolding attempt_refusal
  may-hear-attempt view x e =
      let a = spared (eqb s.stage 0) 6 _ (lit< tt) e in
      let b = spared-not (eqb view s.view) 7 _ (lit< tt) a.1 in
      let c = spared-not (has s.members x) 4 _ (lit< tt) b.1 in
      let o = spared (eqb s.stage 2) 12 _ (lit< tt) c.1 in
      let d = spared (has s.attempts x || eqb x (own r)) 8 0 (lit< tt) o.1 in
      let n = or-none (has s.attempts x) (eqb x (own r)) d.0 in (
        record { opened = eqb-false _ _ a.0; same_view = eqb-true _ _ b.0; member = c.0; unheard = n.0; another = eqb-false _ _ n.1 },
        eqb-false _ _ o.0,
      )

  pub may-decide : decide_refusal s r ≡ 0 → MayDecide s r
  unfolding decide_refusal
  may-decide e =
      let a = spared-not (usable s r) 2 _ (lit< tt) e in
      let b = spared (eqb s.stage 0) 6 _ (lit< tt) a.1 in
      let c = spared-not (eqb s.stage 1) 10 _ (lit< tt) b.1 in
      let d = spared-not (eqb s.states s.members) 9 0 (lit< tt) c.1 in
      record { fit = a.0; undecided = eqb-true _ _ c.0; all-heard = eqb-true _ _ d.0 }

  pub may-form : form_refusal s r ≡ 0 → MayForm s r
  unfolding form_refusal
  may-form e =
      let a = spared-not (usable s r) 2 _ (lit< tt) e in
      let b = spared (eqb s.stage 0) 6 _ (lit< tt) a.1 in
      let c = spared (eqb s.stage 2) 12 _ (lit< tt) b.1 in
      let d = spared (eqb s.stage 4) 10 _ (lit< tt) c.1 in
      let f = spared (eqb s.stage 1) 11 _ (lit< tt) d.1 in
      let g = spared-not (eqb s.attempts s.members) 9 0 (lit< tt) f.1 in
      record {
        fit = a.0;
        attempted = omega (arith, usable-stage s r a.0, eqb-false s.stage 0 b.0, eqb-false s.stage 2 c.0, eqb-false s.stage 4 d.0, eqb-false s.stage 1 f.0);
        all-heard = eqb-true _ _ g.0;
      }

  pub may-write-state : (room : ℕ) → write_state_refusal s r room ≡ 0 → MayWriteState s r room
  unfolding write_state_refusal
  may-write-state room e =
      let a = spared-not (usable s r) 2 _ (lit< tt) e in
      let b = spared (eqb s.stage 0) 6 _ (lit< tt) a.1 in
      let c = spared-not (eqb s.stage 1) 10 _ (lit< tt) b.1 in
      let d = spared (ltb room 419) 13 0 (lit< tt) c.1 in
      record { fit = a.0; undecided = eqb-true _ _ c.0; long = ltb-false room 419 d.0 }

  pub may-write-attempt : (room : ℕ) → write_attempt_refusal s r room ≡ 0 → MayWriteAttempt s r room
  unfolding write_attempt_refusal
  may-write-attempt room e =
      let a = spared-not (usable s r) 2 _ (lit< tt) e in
      let b = spared (eqb s.stage 0) 6 _ (lit< tt) a.1 in
      let c = spared (eqb s.stage 2) 12 _ (lit< tt) b.1 in
      let d = spared (eqb s.stage 1) 11 _ (lit< tt) c.1 in
      let f = spared (ltb room 13) 13 0 (lit< tt) d.1 in
      record {
        fit = a.0;
        attempted = omega (arith, eqb-false s.stage 0 b.0, eqb-false s.stage 2 c.0, eqb-false s.stage 1 d.0);
        long = ltb-false room 13 f.0;
      }
