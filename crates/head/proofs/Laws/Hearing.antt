-- What a hearing call is given: a line that reads keeps the rules, so its sender is a head and its state may be held; a line of the other kind, or one that
-- does not read, is refused with 3.
use mathlib.Core.Bool.{true}
use mathlib.Core.Path.{◌≡◌, refl, subst}
use mathlib.Core.List.{List}
use Prim.Native.Nat.{ℕ}
use Rattle.lines.specs.Read.{Line, StateLine, AttemptLine}
use Rattle.lines.specs.Read.{Line, StateLine, AttemptLine}
use Rattle.lines.specs.Reading.{read_whole, read_of, breaks}
use Rattle.lines.specs.declared.Frame.{Frame}
use Rattle.lines.specs.declared.Frame.TheVariants as frame
use Rattle.state.specs.declared.rules.Rule.{Rule}
use Rattle.state.specs.declared.State.{State}
use Rattle.std.specs.Prelude.{Result, Ok, Err}
use Rattle.lines.specs.Theorems.{KeptLine, HeadKept, StateKept}
use Rattle.lines.proofs.Laws.Theorems.{whole-keeps}
use Rattle.head.specs.declared.session.Session.{Session}
use Rattle.head.specs.Fits.{usable}
use Rattle.head.specs.Refusals.{of_state_line, of_attempt_line, hear_state_refusal, hear_attempt_refusal}

-- ---- the line

pub state-kept : (bytes : List ℕ) (v x : ℕ) → (read_whole bytes).line ≡ StateLine v x → StateKept v x (read_whole bytes).state
state-kept bytes v x e =
    subst (λ (l : Line). KeptLine l (read_whole bytes).state) e (whole-keeps bytes (rw e))

pub attempt-kept : (bytes : List ℕ) (v x : ℕ) → (read_whole bytes).line ≡ AttemptLine v x → HeadKept v x
attempt-kept bytes v x e =
    (subst (λ (l : Line). KeptLine l (read_whole bytes).state) e (whole-keeps bytes (rw e))).0

-- a line that reads as no state, as no attempt
pub no-state-line : (s : Session) (r : List ℕ) (x : Result Frame Rule) → ((v h : ℕ) (st : State) → x ≡ Ok (frame.State v h st) → ⊥) → of_state_line s r (read_of x).line ≡ 3
unfolding breaks
no-state-line s r (Ok (frame.State v h st)) other = absurd (other v h st refl)
no-state-line s r (Ok (frame.Attempt v h)) other = refl
no-state-line s r (Err rule) other = refl

pub no-attempt-line : (s : Session) (r : List ℕ) (x : Result Frame Rule) → ((v h : ℕ) → x ≡ Ok (frame.Attempt v h) → ⊥) → of_attempt_line s r (read_of x).line ≡ 3
unfolding breaks
no-attempt-line s r (Ok (frame.State v h st)) other = refl
no-attempt-line s r (Ok (frame.Attempt v h)) other = absurd (other v h refl)
no-attempt-line s r (Err rule) other = refl

-- ---- a call that reads its line is refused by what the line says

module _ (s : Session) (r bytes : List ℕ) where
  pub hear-state-reads : usable s r ≡ true → hear_state_refusal s r bytes ≡ of_state_line s r (read_whole bytes).line
  unfolding hear_state_refusal
  hear-state-reads e = rw e

  pub hear-attempt-reads : usable s r ≡ true → hear_attempt_refusal s r bytes ≡ of_attempt_line s r (read_whole bytes).line
  unfolding hear_attempt_refusal
  hear-attempt-reads e = rw e
