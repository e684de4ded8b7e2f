-- Before turn i the stores made are those of the places before i.
use mathlib.Core.Path.{refl, ◌∙◌}
use native.Mathlib.Omega.{arith}
use Rattle.store.proofs.Laws.Script.{collect-start, collect-again, collect-done}
use Rattle.changes.proofs.Desk.clear_all.Goals as goal

pub loop-i-init : goal.loop-i-init
loop-i-init c = record { lent = refl; stores = collect-start _ _ }

pub loop-i-preserved : goal.loop-i-preserved
loop-i-preserved c = record {
  lent = c.clear_if.ensures.lent ∙ c.loop-i.invariant.lent;
  stores = collect-again _ _ _ c.loop-i.invariant.stores c.clear_if.ensures.stores;
}

pub returns : goal.returns
returns c = record { lent = c.loop-i.invariant.lent; stores = c.loop-i.invariant.stores ∙ collect-done _ _ _ _ (omega arith) (omega arith) }
