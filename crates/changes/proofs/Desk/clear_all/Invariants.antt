-- Before turn i the stores made are those of the places before i.
use mathlib.Core.Bool.{false, cond}
use mathlib.Core.List.{[]}
use lib.ListN.{get_or}
use Rattle.loops.specs.Below.{collect}
use Rattle.store.specs.Desk.{run}
use Rattle.recovery.specs.Changes.{clear_change}
use Rattle.changes.specs.Lent.{on, Leaves}
use Rattle.changes.proofs.Desk.clear_all.Given as goal

abbrev pub invariant-loop-i : goal.invariant-loop-i
invariant-loop-i l = Leaves (run (collect l.i (λ k. cond (get_or l.cleared k false) (clear_change k) [])) (on l.initial.self)) l.initial.self l.self
