-- Marks, adoption and clearings one after the other are a to c; no mark changes what the others offer.
use mathlib.Core.Path.{◌∙◌}
use Rattle.deciding.proofs.Laws.Call.{learn-chain}
use Rattle.deciding.proofs.decide.learn.Goals as goal

pub returns : goal.returns
returns c = record {
  lent = c.clear_places.ensures.lent ∙ c.adopt_above.ensures.lent ∙ c.mark_places.ensures.lent;
  stores = learn-chain _ _ _ _ c.offers-offered.ensures (c.mark_places.ensures.stores _ c.offers-offered.ensures) c.highest_of.ensures c.adopt_above.ensures.stores c.clear_places.ensures.stores;
}
