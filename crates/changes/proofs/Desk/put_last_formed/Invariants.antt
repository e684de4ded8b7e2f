-- Before turn q the stores made are those of the heads before q.
use Rattle.loops.specs.Below.{collect}
use Rattle.group.specs.Heads.{has}
use Rattle.store.specs.Desk.{run, store_if}
use Rattle.record.specs.Layout.{store_formed}
use Rattle.changes.specs.Lent.{on, Leaves}
use Rattle.changes.proofs.Desk.put_last_formed.Given as goal

abbrev pub invariant-loop-q : goal.invariant-loop-q
invariant-loop-q l = Leaves (run (collect l.q (λ k. store_if (has l.w k) (store_formed k l.w))) (on l.initial.self)) l.initial.self l.self
