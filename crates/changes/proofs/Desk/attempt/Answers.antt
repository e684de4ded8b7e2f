-- The two stores, one after the other.
use mathlib.Core.Path.{◌∙◌}
use Rattle.plan.proofs.Laws.Stores.{attempt-chain}
use Rattle.changes.proofs.Desk.attempt.Goals as goal

pub returns : goal.returns
returns c = record {
  lent = c.put-2.ensures.lent ∙ c.put.ensures.lent;
  stores = attempt-chain _ _ _ c.number_of.ensures c.put.ensures.stores c.put-2.ensures.stores;
}
