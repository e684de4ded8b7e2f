-- "Each call takes the head's session and hands it back; it is volatile." A session's stage is a number, so that any bytes from outside are some session:
-- 0 none, 1 undecided, 2 closed, 3 attempted, 4 formed; a larger one fits no record.
use Rattle.std.specs.Prelude.{ℕ, set}
use Rattle.group.specs.Heads.{either, only}
use Rattle.state.specs.Values.{nothing_held}
use Rattle.state.specs.declared.State.{State}
use Rattle.head.specs.declared.session.Session.{Session}

-- none, as the library makes it
unfoldable pub no_session : Session
no_session = record { stage = 0; view = 0; members = 0; states = 0; attempts = 0; held = nothing_held }

-- Enter "opens one. Own state and own attempt count as heard."
unfoldable pub opened : ℕ → ℕ → ℕ → Session
opened own view m = record { stage = 1; view = view; members = m; states = only own; attempts = only own; held = nothing_held }

-- the session with the state of sender x heard, and with its attempt heard
unfoldable pub with_state : Session → ℕ → State → Session
with_state s x st = record {
  stage = s.stage;
  view = s.view;
  members = s.members;
  states = either s.states (only x);
  attempts = s.attempts;
  held = record { of = set s.held.of x st };
}

unfoldable pub with_attempt : Session → ℕ → Session
with_attempt s x = record {
  stage = s.stage;
  view = s.view;
  members = s.members;
  states = s.states;
  attempts = either s.attempts (only x);
  held = s.held;
}

-- the session at another stage
unfoldable pub at_stage : Session → ℕ → Session
at_stage s n = record { stage = n; view = s.view; members = s.members; states = s.states; attempts = s.attempts; held = s.held }
