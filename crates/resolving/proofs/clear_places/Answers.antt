-- Before turn i the desk is that of the first i steps.
use mathlib.Core.Path.{refl, ◌∙◌}
use native.Mathlib.Omega.{arith}
use Rattle.store.proofs.Laws.Program.{steps-start, steps-again, steps-done}
use Rattle.plan.proofs.Laws.Branches.{clear_step-one}
use Rattle.resolving.proofs.clear_places.Goals as goal

pub loop-i-init : goal.loop-i-init
loop-i-init c = record { lent = refl; stores = steps-start _ _ }

pub loop-i-preserved : goal.loop-i-preserved
loop-i-preserved c = record {
  lent = c.clear_if.ensures.lent ∙ c.loop-i.invariant.lent;
  stores = steps-again _ _ _ c.loop-i.invariant.stores (clear_step-one _ _ _ _ _ c.to_clear-asked.ensures c.clear_if.ensures.stores);
}

pub returns : goal.returns
returns c = record { lent = c.loop-i.invariant.lent; stores = c.loop-i.invariant.stores ∙ steps-done _ _ _ _ (omega arith) c.loop-i-test.false }
