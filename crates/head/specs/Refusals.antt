-- The first refusal of each call on a session and a record: the refusals of `refusals`, over the numbers that the two hold.
use Rattle.std.specs.Prelude.{not, cond, List, ℕ}
use Rattle.lines.specs.Reading.{read_whole}
use Rattle.lines.specs.Read.{Line}
use Rattle.lines.specs.Read as line
use Rattle.record.specs.Layout.{own, entered}
use Rattle.refusals.specs.Refusals.{enter_refused, state_refused, attempt_refused, decide_refused, form_refused, write_state_refused, write_attempt_refused}
use Rattle.head.specs.declared.session.Session.{Session}
use Rattle.head.specs.Fits.{usable}

unfoldable pub enter_refusal : Session → List ℕ → ℕ → ℕ → ℕ
enter_refusal s r view m = enter_refused (usable s r) (own r) (entered r) view m

-- hear a state, its line read
unfoldable pub state_refusal : Session → List ℕ → ℕ → ℕ → ℕ
state_refusal s r view sender = state_refused s.stage s.view s.members s.states (own r) view sender

-- 3 "the line breaks a rule above, or is of the other kind"
abbrev pub of_state_line : Session → List ℕ → Line → ℕ
of_state_line s r (line.StateLine view sender) = state_refusal s r view sender
of_state_line s r (line.AttemptLine view sender) = 3
of_state_line s r (line.Broken rule) = 3

unfoldable pub hear_state_refusal : Session → List ℕ → List ℕ → ℕ
hear_state_refusal s r bytes = cond (not (usable s r)) 2 (of_state_line s r (read_whole bytes).line)

-- hear an attempt, its line read
unfoldable pub attempt_refusal : Session → List ℕ → ℕ → ℕ → ℕ
attempt_refusal s r view sender = attempt_refused s.stage s.view s.members s.attempts (own r) view sender

abbrev pub of_attempt_line : Session → List ℕ → Line → ℕ
of_attempt_line s r (line.StateLine view sender) = 3
of_attempt_line s r (line.AttemptLine view sender) = attempt_refusal s r view sender
of_attempt_line s r (line.Broken rule) = 3

unfoldable pub hear_attempt_refusal : Session → List ℕ → List ℕ → ℕ
hear_attempt_refusal s r bytes = cond (not (usable s r)) 2 (of_attempt_line s r (read_whole bytes).line)

unfoldable pub decide_refusal : Session → List ℕ → ℕ
decide_refusal s r = decide_refused (usable s r) s.stage s.members s.states

unfoldable pub form_refusal : Session → List ℕ → ℕ
form_refusal s r = form_refused (usable s r) s.stage s.members s.attempts

-- write a line into an output of so many characters
unfoldable pub write_state_refusal : Session → List ℕ → ℕ → ℕ
write_state_refusal s r room = write_state_refused (usable s r) s.stage room

unfoldable pub write_attempt_refusal : Session → List ℕ → ℕ → ℕ
write_attempt_refusal s r room = write_attempt_refused (usable s r) s.stage room
