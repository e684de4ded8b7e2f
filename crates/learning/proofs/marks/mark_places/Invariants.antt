-- Before turn i the desk is that of the first i mark steps. No mark step touches word 0, so what the others offer stays as it was told.
use mathlib.Core.Path.{◌≡◌}
use Rattle.loops.specs.Below.{table}
use Rattle.store.specs.Program.{exec, up_to}
use Rattle.state.specs.declared.Held.{Held}
use Rattle.plan.specs.Adoption.{offered}
use Rattle.plan.specs.Marks.{mark_step}
use Rattle.changes.specs.Lent.{on}
use Rattle.learning.proofs.marks.mark_places.Given as goal

abbrev pub invariant-loop-i : goal.invariant-loop-i
invariant-loop-i l = record {
  lent : l.desk.rec.ghost_name ≡ l.initial.desk.rec.ghost_name;
  stores : (held : Held) → l.offers ≡ table 16 (offered l.m held l.initial.desk.rec.now) → on l.desk ≡ exec (up_to l.i (mark_step l.m held)) (on l.initial.desk);
}
