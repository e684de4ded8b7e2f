-- How d's tests go, branch by branch.
use mathlib.Core.Path.{◌≡◌, ◌∙◌}
use mathlib.Core.Bool.{true, false}
use mathlib.Core.List.{List}
use Prim.Native.Nat.{ℕ, ◌+◌, ◌≤◌, ◌<◌}
use native.Mathlib.Omega.{arith}
use borrow.Author.Tests.{le-leb, lt-leb, lt-ltb, le-ltb}
use Rattle.group.specs.Answers.{no-quorum, numbers-run-out, no_place, attempted}
use Rattle.group.specs.Heads.{has}
use Rattle.group.specs.Words.{session}
use Rattle.store.specs.declared.Pen.{Pen}
use Rattle.store.specs.Desk.{Desk, desk, run}
use Rattle.store.specs.Program.{step_by}
use Rattle.recovery.specs.Changes.{attempt_change}
use Rattle.state.specs.declared.Held.{Held}
use Rattle.plan.specs.Attempt.{highest_number, listed_weighed, quorate, lowest_free, decision, attempts, attempt_session, attempt_step}

-- ---- the sessions that one head lists

module _ (m : ℕ) (held : Held) (r : List ℕ) (top q : ℕ) where
  pub listed-not : has m q ≡ false → true ≡ listed_weighed m held r top q
  unfolding listed_weighed
  listed-not e = rw e

-- ---- the decision

module _ (m : ℕ) (held : Held) (r : List ℕ) where
  -- it is not quorate
  pub none-decision : quorate m held r ≡ false → no-quorum ≡ decision m held r
  unfolding decision
  none-decision e = rw e

  pub none-step : quorate m held r ≡ false → (pen : Pen) → desk r pen ≡ step_by (attempt_step m held) (desk r pen)
  unfolding step_by attempt_step attempts run
  none-step e pen = rw e

  -- n is the highest number
  module _ (q : quorate m held r ≡ true) {n : ℕ} (en : n ≡ highest_number m held r) where
    -- numbers run out
    pub spent-decision : 4294967295 ≤ n → numbers-run-out ≡ decision m held r
    unfolding decision
    spent-decision h = rw (q, le-leb 4294967295 (highest_number m held r) (omega arith))

    pub spent-step : 4294967295 ≤ n → (pen : Pen) → desk r pen ≡ step_by (attempt_step m held) (desk r pen)
    unfolding step_by attempt_step attempts run
    spent-step h pen = rw (q, le-ltb (highest_number m held r) 4294967295 (omega arith))

    -- i is the lowest free place
    module _ (l : n < 4294967295) {i : ℕ} (ei : i ≡ lowest_free r) where
      -- no place
      pub full-decision : 16 ≤ i → no_place ≡ decision m held r
      unfolding decision
      full-decision h = rw (q, lt-leb 4294967295 (highest_number m held r) (omega arith), le-leb 16 (lowest_free r) (omega arith))

      pub full-step : 16 ≤ i → (pen : Pen) → desk r pen ≡ step_by (attempt_step m held) (desk r pen)
      unfolding step_by attempt_step attempts run
      full-step h pen = rw (q, lt-ltb (highest_number m held r) 4294967295 (omega arith), le-ltb (lowest_free r) 16 (omega arith))

      -- attempted
      pub done-decision : i < 16 → attempted ≡ decision m held r
      unfolding decision
      done-decision h = rw (q, lt-leb 4294967295 (highest_number m held r) (omega arith), lt-leb 16 (lowest_free r) (omega arith))

      pub done-step : i < 16 → (pen : Pen) {w : ℕ} {d : Desk} → w ≡ session (n + 1) m → d ≡ run (attempt_change i w) (desk r pen)
          → d ≡ step_by (attempt_step m held) (desk r pen)
      unfolding step_by attempt_step attempts attempt_session
      done-step h pen ew e =
          e ∙ rw (ew, en, ei, q, lt-ltb (highest_number m held r) 4294967295 (omega arith), lt-ltb (lowest_free r) 16 (omega arith))
