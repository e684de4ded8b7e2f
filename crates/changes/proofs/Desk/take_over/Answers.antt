-- The four parts of the change, one after the other.
use mathlib.Core.Path.{◌∙◌}
use Rattle.plan.proofs.Laws.Stores.{take-chain}
use Rattle.changes.proofs.Desk.take_over.Goals as goal

pub returns : goal.returns
returns c = record {
  lent = c.clear_all.ensures.lent ∙ c.put_last_formed.ensures.lent ∙ c.put_if.ensures.lent ∙ c.put.ensures.lent;
  stores = take-chain _ _ c.args.cleared.now _ c.number_of.ensures c.put.ensures.stores c.put_if.ensures.stores c.put_last_formed.ensures.stores c.clear_all.ensures.stores;
}
