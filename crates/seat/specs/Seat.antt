-- A head of the bench: "each with its record, its session and its last four sent lines", and the cut that waits for its next call.
use Rattle.std.specs.Prelude.{List, ℕ, replicate, None}
use Rattle.group.specs.Answers.{Said, started, recovered, entered, heard, attempted, no-quorum, numbers-run-out, no_place, formed, cut, written, refused}
use Rattle.head.specs.declared.session.Session.{Session}
use Rattle.head.specs.Session.{no_session}
use Rattle.head.specs.Calls.{Wrote, write_state_spec, write_attempt_spec}
use Rattle.keeping.specs.declared.Kept.{Kept}
use Rattle.keeping.specs.Keeping.{blank, no_line, stores_for, chars, pushed}
use Rattle.seat.specs.declared.Seat.{Seat}
use Rattle.seat.specs.declared.Line.{Line}
use Rattle.seat.specs.declared.Line.TheVariants as line

-- before its group line a head has nothing
abbrev pub empty_seat : Seat
empty_seat = record { words = replicate 52 0; session = no_session; sent = replicate 4 no_line; cut = None }

abbrev pub stores_of : Seat → ℕ
stores_of h = stores_for h.cut

-- ---- the lines that are kept

abbrev pub sent_line : Wrote → Kept
sent_line w = record { len = chars w.answer; bytes = w.out }

abbrev pub write_spec : Line → Session → List ℕ → List ℕ → Wrote
write_spec line.State s r out = write_state_spec s r out
write_spec line.Attempt s r out = write_attempt_spec s r out

abbrev pub line_sent : Line → Session → List ℕ → Kept
line_sent kind s r = sent_line (write_spec kind s r blank)

-- "Entering sends the state line, attempting sends the attempt line."
abbrev pub state_sent : Session → List ℕ → Kept
state_sent s r = line_sent line.State s r

abbrev pub attempt_sent : Session → List ℕ → Kept
attempt_sent s r = line_sent line.Attempt s r

-- the lines kept after an entry and after a decision, by the answer
abbrev pub sent_on_entry : Said → Session → List ℕ → List Kept → List Kept
sent_on_entry entered s r sent = pushed (state_sent s r) sent
sent_on_entry (written n) s r sent = sent
sent_on_entry started s r sent = sent
sent_on_entry recovered s r sent = sent
sent_on_entry heard s r sent = sent
sent_on_entry attempted s r sent = sent
sent_on_entry no-quorum s r sent = sent
sent_on_entry numbers-run-out s r sent = sent
sent_on_entry no_place s r sent = sent
sent_on_entry formed s r sent = sent
sent_on_entry cut s r sent = sent
sent_on_entry (refused n) s r sent = sent

abbrev pub sent_on_decision : Said → Session → List ℕ → List Kept → List Kept
sent_on_decision attempted s r sent = pushed (attempt_sent s r) sent
sent_on_decision entered s r sent = sent
sent_on_decision (written n) s r sent = sent
sent_on_decision started s r sent = sent
sent_on_decision recovered s r sent = sent
sent_on_decision heard s r sent = sent
sent_on_decision no-quorum s r sent = sent
sent_on_decision numbers-run-out s r sent = sent
sent_on_decision no_place s r sent = sent
sent_on_decision formed s r sent = sent
sent_on_decision cut s r sent = sent
sent_on_decision (refused n) s r sent = sent

-- the same by the kind of line that a call may send
abbrev pub sent_after : Line → Said → Session → List ℕ → List Kept → List Kept
sent_after line.State a s r sent = sent_on_entry a s r sent
sent_after line.Attempt a s r sent = sent_on_decision a s r sent
