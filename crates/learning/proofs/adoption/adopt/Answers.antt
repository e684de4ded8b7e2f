-- The parts are those of the change, from the record before it.
use Rattle.plan.proofs.Laws.Stores.{adopt-by}
use Rattle.learning.proofs.adoption.adopt.Goals as goal

pub returns : goal.returns
returns c = record { lent = c.take_over.ensures.lent; stores = adopt-by _ _ _ c.number.ensures c.number_of.ensures c.all_past-cleared.ensures c.take_over.ensures.stores }
