-- Before turn q the stores made are those of the heads before q.
use mathlib.Core.Path.{refl, ◌∙◌}
use native.Mathlib.Omega.{arith}
use Rattle.store.proofs.Laws.Script.{collect-start, collect-done}
use Rattle.recovery.specs.Changes.{formed_stores}
use Rattle.plan.proofs.Laws.Stores.{formed-again}
use Rattle.changes.proofs.Desk.put_last_formed.Goals as goal

pub loop-q-init : goal.loop-q-init
loop-q-init c = record { lent = refl; stores = collect-start _ _ }

pub loop-q-preserved : goal.loop-q-preserved
loop-q-preserved c = record {
  lent = c.put_if.ensures.lent ∙ c.loop-q.invariant.lent;
  stores = formed-again _ _ _ c.loop-q.invariant.stores c.has_head.ensures c.put_if.ensures.stores;
}

pub returns : goal.returns
unfolding formed_stores
returns c = record { lent = c.loop-q.invariant.lent; stores = c.loop-q.invariant.stores ∙ collect-done _ _ _ _ (omega arith) c.loop-q-test.false }
