-- The tests choose the case of the definition.
use Rattle.lines.proofs.Laws.Writing.{state-written, state-many, state-kept-out}
use Rattle.writer.proofs.write_state.Goals as goal

pub returns-then-count-gt-PLACES-clause-written : goal.returns-then-count-gt-PLACES-clause-written
returns-then-count-gt-PLACES-clause-written c = state-many _ _ _ c.args.st.now c.if-count-gt-PLACES.true

pub returns-then-out-lt-STATE_ROOM-clause-written : goal.returns-then-out-lt-STATE_ROOM-clause-written
returns-then-out-lt-STATE_ROOM-clause-written c = state-kept-out _ _ _ c.args.st.now c.if-count-gt-PLACES.false c.if-out-lt-STATE_ROOM.true

pub returns-clause-written : goal.returns-clause-written
returns-clause-written c = state-written _ _ _ c.args.st.now _ c.if-count-gt-PLACES.false c.if-out-lt-STATE_ROOM.false c.put_state.ensures
