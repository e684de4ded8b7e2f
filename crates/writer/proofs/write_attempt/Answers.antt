-- The tests choose the case of the definition.
use Rattle.lines.proofs.Laws.Writing.{attempt-written, attempt-kept-out}
use Rattle.writer.proofs.write_attempt.Goals as goal

pub returns-then-out-lt-ATTEMPT_ROOM-clause-written : goal.returns-then-out-lt-ATTEMPT_ROOM-clause-written
returns-then-out-lt-ATTEMPT_ROOM-clause-written c = attempt-kept-out _ _ _ c.if-out-lt-ATTEMPT_ROOM.true

pub returns-clause-written : goal.returns-clause-written
returns-clause-written c = attempt-written _ _ _ _ c.if-out-lt-ATTEMPT_ROOM.false c.put_attempt.ensures
