-- Hearing a state line and hearing an attempt line: what is taken in was written before by the head that the line names, and the session still fits.
use mathlib.Core.Bool.{true, not}
use mathlib.Core.Logic.{◌⊎◌, inl, inr, ⊎_elim}
use mathlib.Core.Path.{◌≡◌, refl, sym, ap, subst, ◌∙◌}
use mathlib.Core.List.{List, Memᴰ}
use Prim.Native.Nat.{ℕ, zero, suc, ◌<◌}
use native.Mathlib.Omega.{arith}
use lib.Dec.{eqb}
use lib.ListN.{length}
use lib.Seq.{get_or-set_same, get_or-set_other}
use borrow.Author.Tests.{eqb-true, eqb-false}
use Rattle.loops.proofs.Laws.Truth.{or_cases, passes-or-fails}
use Rattle.group.specs.Heads.{has, either, only}
use Rattle.group.proofs.Laws.Heads.{has_either, has-only}
use Rattle.record.specs.Layout.{entered}
use Rattle.recovery.proofs.Laws.Still.{mended-whole}
use Rattle.state.specs.declared.State.{State}
use Rattle.lines.specs.Reading.{read_whole}
use Rattle.lines.specs.Theorems.{HeadKept, StateKept}
use Rattle.lines.specs.Read.{Line, StateLine, AttemptLine, Broken}
use Rattle.plan.specs.Members.{absent, held_of}
use Rattle.head.specs.declared.session.Session.{Session}
use Rattle.head.specs.Session.{with_state, with_attempt}
use Rattle.head.specs.Fits.{usable}
use Rattle.head.specs.Refusals.{of_state_line, hear_state_refusal, of_attempt_line, hear_attempt_refusal}
use Rattle.head.specs.Calls.{Ended, heard_state, hear_state_spec, heard_attempt, hear_attempt_spec}
use Rattle.head.proofs.Laws.Refusals.{MayHear, may-hear-state, may-hear-attempt}
use Rattle.head.proofs.Laws.Hearing.{state-kept, attempt-kept}
use Rattle.calls.proofs.Laws.Kept.{heard-fits, heard-sized, attempt-fits, attempt-sized}
use Rattle.chain.specs.Model.{Group}
use Rattle.chain.specs.World.{Phase, Phase.undecided as undecided, Phase.trying as trying, Phase.closed as closed, Phase.primary as prime, live, Turn, hears, rests, then}
use Rattle.chain.proofs.Laws.Calls.{turn-to}
use Rattle.history.specs.Setting.{Setting}
use Rattle.history.specs.Statement.{Sent, running, SentBefore}
use Rattle.history.proofs.Abstraction.{rec_of, said_of, heard_of, vol_by, vol_of, Wrote, Tried}
use Rattle.history.proofs.Invariant.{Live, Runs}
use Rattle.history.proofs.Calls.Ends.{unrefused, refusal-elim, Kept, stays}
use Rattle.history.proofs.Calls.Going.{goes_on}

-- ---- a set with one head more

more-cases : (s x q : ℕ) → has (either s (only x)) q ≡ true → (q ≡ x) ⊎ (has s q ≡ true)
more-cases s x q h = ⊎_elim (λ t. inr t) (λ t. inl (sym (eqb-true x q (sym (has-only x q) ∙ t)))) (or_cases (has s q) (has (only x) q) (sym (has_either s (only x) q) ∙ h))

-- ---- a session that goes on, by its stage

vol-live : (p : ℕ) (s : Session) → (s.stage ≡ 0 → ⊥) → (f : Phase) × (vol_of p s ≡ live (heard_of p f s)) × ((u : Session) → u.stage ≡ s.stage → vol_of p u ≡ live (heard_of p f u))
vol-live p s n = go s.stage refl
  where
    by : (m : ℕ) (f : Phase) → s.stage ≡ m → ((u : Session) → vol_by m p u ≡ live (heard_of p f u))
        → (f : Phase) × (vol_of p s ≡ live (heard_of p f s)) × ((u : Session) → u.stage ≡ s.stage → vol_of p u ≡ live (heard_of p f u))
    by m f e g = (f, ap (λ (j : ℕ). vol_by j p s) e ∙ g s, λ u h. ap (λ (j : ℕ). vol_by j p u) (h ∙ e) ∙ g u)

    go : (m : ℕ) → s.stage ≡ m → (f : Phase) × (vol_of p s ≡ live (heard_of p f s)) × ((u : Session) → u.stage ≡ s.stage → vol_of p u ≡ live (heard_of p f u))
    go zero e = absurd (n e)
    go (suc zero) e = by 1 undecided e (λ u. refl)
    go (suc (suc zero)) e = by 2 closed e (λ u. refl)
    go (suc (suc (suc zero))) e = by 3 trying e (λ u. refl)
    go (suc (suc (suc (suc m)))) e = by (suc (suc (suc (suc m)))) prime e (λ u. refl)

-- ---- the session with a state more

module _ (s : Session) (x : ℕ) (st : State) where
  state-here : x < 16 → length s.held.of ≡ 16 → held_of (with_state s x st).held x ≡ st
  unfolding with_state
  state-here l h = get_or-set_same s.held.of x st absent (omega arith)

  state-there : (q : ℕ) → (q ≡ x → ⊥) → held_of (with_state s x st).held q ≡ held_of s.held q
  unfolding with_state
  state-there q n = get_or-set_other s.held.of x q st absent n

  state-cases : (q : ℕ) → has (with_state s x st).states q ≡ true → (q ≡ x) ⊎ (has s.states q ≡ true)
  unfolding with_state
  state-cases q h = more-cases s.states x q h

  state-stage : (with_state s x st).stage ≡ s.stage
  unfolding with_state
  state-stage = refl

  state-attempts : (q : ℕ) → has (with_state s x st).attempts q ≡ true → has s.attempts q ≡ true
  unfolding with_state
  state-attempts q h = h

  state-live : (S : Setting) (r : List ℕ) (v : Live S r s) (u : ℕ) → MayHear s r u x s.states → StateKept u x st → Live S r (with_state s x st)
  unfolding with_state
  state-live S r v u a k = record {
    good = v.good;
    fitting = heard-fits s r u x v.fitting v.sized k.head.sender st a k.rules;
    same = v.same;
    sized = heard-sized s r u x v.fitting v.sized k.head.sender st a k.rules k.tidy;
  }

-- ---- the session with an attempt more

module _ (s : Session) (x : ℕ) where
  attempt-cases : (q : ℕ) → has (with_attempt s x).attempts q ≡ true → (q ≡ x) ⊎ (has s.attempts q ≡ true)
  unfolding with_attempt
  attempt-cases q h = more-cases s.attempts x q h

  attempt-stage : (with_attempt s x).stage ≡ s.stage
  unfolding with_attempt
  attempt-stage = refl

  attempt-states : (q : ℕ) → has (with_attempt s x).states q ≡ true → has s.states q ≡ true
  unfolding with_attempt
  attempt-states q h = h

  attempt-said : (q : ℕ) → said_of (held_of (with_attempt s x).held q) ≡ said_of (held_of s.held q)
  unfolding with_attempt
  attempt-said q = refl

  attempt-live : (S : Setting) (r : List ℕ) (v : Live S r s) (u : ℕ) → MayHear s r u x s.attempts → HeadKept u x → Live S r (with_attempt s x)
  unfolding with_attempt
  attempt-live S r v u a k = record {
    good = v.good;
    fitting = attempt-fits s r u x v.fitting v.sized k.sender a;
    same = v.same;
    sized = attempt-sized s r u x v.fitting v.sized k.sender a;
  }

-- ---- the calls

module _ (S : Setting) (G : Group) (p : ℕ) (L : List Sent) (r : List ℕ) (s : Session) (i : Runs S p r s) (bytes : List ℕ) where
  going : (s' : Session) → Live S r s' → Turn G p (Wrote L) (Tried L) (rec_of r) (vol_of p s) (rec_of r) (vol_of p s') → Kept S G p L (running r s) (running r s')
  going s' v t = record {
    moves = then rests (turn-to G (ap rec_of (mended-whole r v.good)) refl (ap rec_of (mended-whole r v.good)) refl t);
    ok = record { seat = i.seat; long = i.long; group = i.group; sound = i.sound; session = inr v };
  }

  state-heard : (v x : ℕ) → (read_whole bytes).line ≡ StateLine v x → Memᴰ (record { by = x; bytes = bytes }) L → MayHear s r v x s.states
      → Kept S G p L (running r s) (running r (with_state s x (read_whole bytes).state))
  state-heard v x rd at a =
      let st = (read_whole bytes).state in
      let k = state-kept bytes v x rd in
      let w = goes_on S p r s i a.opened in
      let ph = vol-live p s a.opened in
      let view-is : v ≡ entered r = a.same_view ∙ w.fitting.view in
      going (with_state s x st) (state-live s x st S r w v a k)
      (hears (heard_of p ph.0 s) (heard_of p ph.0 (with_state s x st)) refl ph.1 (ph.2 (with_state s x st) (state-stage s x st)) refl
      (λ q (n, g, h).
      ⊎_elim
      (λ e. inr (record {
        bytes = bytes;
        at = subst (λ (j : ℕ). Memᴰ (record { by = j; bytes = bytes }) L) (sym (eqb-true q x e)) at;
        reads = rd ∙ ap (λ (j : ℕ). StateLine j x) view-is ∙ ap (λ (j : ℕ). StateLine (entered r) j) (sym (eqb-true q x e));
        is = ap (λ (j : ℕ). said_of (held_of (with_state s x st).held j)) (eqb-true q x e) ∙ ap said_of (state-here s x st k.head.sender w.sized.slots);
      }))
      (λ m. inl (ap said_of (state-there s x st q (eqb-false q x m)), (n, g, ⊎_elim (λ e. absurd (eqb-false q x m e)) (λ t. t) (state-cases s x st q h))))
      (passes-or-fails (eqb q x)))
      (λ q (n, g, h). inl (n, g, state-attempts s x st q h)))

  -- HEAR A STATE
  pub hear-state-kept : SentBefore L bytes (read_whole bytes).line → Kept S G p L (running r s) (running (hear_state_spec s r bytes).words (hear_state_spec s r bytes).session)
  unfolding hear_state_spec hear_state_refusal
  hear-state-kept sent =
      refusal-elim (λ (o : Ended). Kept S G p L (running r s) (running o.words o.session)) (hear_state_refusal s r bytes) _ _
      (λ z. go (read_whole bytes).line refl sent (unrefused (not (usable s r)) 2 (of_state_line s r (read_whole bytes).line) (λ e. omega arith) z).1)
      (stays S G p L r s i)
    where
      go : (l : Line) → (read_whole bytes).line ≡ l → SentBefore L bytes l → of_state_line s r l ≡ 0 → Kept S G p L (running r s) (running r (heard_state s l (read_whole bytes).state))
      go (StateLine v x) e at z = state-heard v x e at (may-hear-state s r v x z)
      go (AttemptLine v x) e at z = absurd (omega arith)
      go (Broken k) e at z = absurd (omega arith)

  attempt-heard : (v x : ℕ) → (read_whole bytes).line ≡ AttemptLine v x → Memᴰ (record { by = x; bytes = bytes }) L → MayHear s r v x s.attempts
      → Kept S G p L (running r s) (running r (with_attempt s x))
  attempt-heard v x rd at a =
      let k = attempt-kept bytes v x rd in
      let w = goes_on S p r s i a.opened in
      let ph = vol-live p s a.opened in
      let view-is : v ≡ entered r = a.same_view ∙ w.fitting.view in
      going (with_attempt s x) (attempt-live s x S r w v a k)
      (hears (heard_of p ph.0 s) (heard_of p ph.0 (with_attempt s x)) refl ph.1 (ph.2 (with_attempt s x) (attempt-stage s x)) refl
      (λ q (n, g, h). inl (attempt-said s x q, (n, g, attempt-states s x q h)))
      (λ q (n, g, h).
      ⊎_elim
      (λ e. inr (record {
        bytes = bytes;
        at = subst (λ (j : ℕ). Memᴰ (record { by = j; bytes = bytes }) L) (sym e) at;
        reads = rd ∙ ap (λ (j : ℕ). AttemptLine j x) view-is ∙ ap (λ (j : ℕ). AttemptLine (entered r) j) (sym e);
      }))
      (λ t. inl (n, g, t))
      (attempt-cases s x q h)))

  -- HEAR AN ATTEMPT
  pub hear-attempt-kept : SentBefore L bytes (read_whole bytes).line → Kept S G p L (running r s) (running (hear_attempt_spec s r bytes).words (hear_attempt_spec s r bytes).session)
  unfolding hear_attempt_spec hear_attempt_refusal
  hear-attempt-kept sent =
      refusal-elim (λ (o : Ended). Kept S G p L (running r s) (running o.words o.session)) (hear_attempt_refusal s r bytes) _ _
      (λ z. go (read_whole bytes).line refl sent (unrefused (not (usable s r)) 2 (of_attempt_line s r (read_whole bytes).line) (λ e. omega arith) z).1)
      (stays S G p L r s i)
    where
      go : (l : Line) → (read_whole bytes).line ≡ l → SentBefore L bytes l → of_attempt_line s r l ≡ 0 → Kept S G p L (running r s) (running r (heard_attempt s l))
      go (StateLine v x) e at z = absurd (omega arith)
      go (AttemptLine v x) e at z = attempt-heard v x e at (may-hear-attempt s r v x z).0
      go (Broken k) e at z = absurd (omega arith)
