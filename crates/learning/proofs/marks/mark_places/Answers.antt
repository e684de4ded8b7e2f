-- Before turn i the desk is that of the first i mark steps. No mark step touches word 0, so what the others offer stays as it was told.
use mathlib.Core.Path.{refl, ◌∙◌}
use native.Mathlib.Omega.{arith}
use Rattle.store.proofs.Laws.Program.{steps-start, steps-done}
use Rattle.plan.proofs.Laws.Marks.{marks-again}
use Rattle.learning.proofs.marks.mark_places.Goals as goal

pub loop-i-init : goal.loop-i-init
loop-i-init c = record { lent = refl; stores = λ held told. steps-start _ _ }

pub loop-i-preserved : goal.loop-i-preserved
loop-i-preserved c = record {
  lent = c.mark_place.ensures.lent ∙ c.loop-i.invariant.lent;
  stores = λ held told. marks-again _ held _ _ _ _ _ _ _ _ told (c.loop-i.invariant.stores held told) (c.mark_place.ensures.stores held);
}

pub returns-clause-stores : goal.returns-clause-stores
returns-clause-stores c = λ held told. c.loop-i.invariant.stores held told ∙ steps-done _ _ _ _ (omega arith) c.loop-i-test.false
