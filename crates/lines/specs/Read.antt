-- What the theorems say of a line: what it is, or the number of the first rule that it breaks, and the state that it carries.
use Rattle.std.specs.Prelude.{ℕ}
use Rattle.state.specs.declared.State.{State}

-- a state line and an attempt line have a view and a sender
pub data Line : Type 0 where
  StateLine : ℕ → ℕ → Line
  AttemptLine : ℕ → ℕ → Line
  Broken : ℕ → Line

-- no state but for a state line
pub record Read : Type 0 where
  pub line : Line
  pub state : State
