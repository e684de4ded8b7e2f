-- A line that is kept is no longer than its room.
use Rattle.keeping.proofs.Laws.{line-long}
use Rattle.seat.proofs.hears.Goals as goal

pub shared_ref_as_front-line : goal.shared_ref_as_front-line
shared_ref_as_front-line c = line-long _ _ c.is_line.ensures c.if-not-is_line.false-raw
