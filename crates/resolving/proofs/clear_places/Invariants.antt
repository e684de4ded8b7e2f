-- Before turn i the desk is that of the first i steps.
use Rattle.store.specs.Program.{exec, up_to}
use Rattle.plan.specs.Clearing.{clear_step}
use Rattle.changes.specs.Lent.{on, Leaves}
use Rattle.resolving.proofs.clear_places.Given as goal

abbrev pub invariant-loop-i : goal.invariant-loop-i
invariant-loop-i l = Leaves (exec (up_to l.i (clear_step l.m l.held)) (on l.initial.desk)) l.initial.desk l.desk
