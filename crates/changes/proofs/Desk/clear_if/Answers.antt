-- The two stores, one after the other.
use mathlib.Core.Path.{◌∙◌}
use Rattle.plan.proofs.Laws.Stores.{clear-chain}
use Rattle.changes.proofs.Desk.clear_if.Goals as goal

pub returns : goal.returns
returns c = record {
  lent = c.put_if-2.ensures.lent ∙ c.put_if.ensures.lent;
  stores = clear-chain _ _ _ c.put_if.ensures.stores c.put_if-2.ensures.stores;
}
