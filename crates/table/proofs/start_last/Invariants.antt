-- The heads that are left to start make of the table what all of them make of it at first.
use Rattle.std.proofs.Common.{◌≡◌, ◌-◌}
use Rattle.worlds.specs.Bench.{start_last}
use Rattle.table.proofs.start_last.Given as goal

abbrev pub invariant-loop-p : goal.invariant-loop-p
invariant-loop-p l = start_last l.core l.least (16 - l.p) l.table ≡ start_last l.core l.least l.n l.initial.table
