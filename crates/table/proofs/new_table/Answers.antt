-- Sixteen of what `empty_seat` returns.
use mathlib.Core.Path.{ap}
use lib.ListN.{replicate}
use Rattle.table.proofs.new_table.Goals as goal

pub returns : goal.returns
returns c = ap (replicate 16) c.empty_seat.ensures
