-- The parts are those of the change: word 2 does not rise, and the used places are cleared.
use Rattle.std.proofs.Common.{rules}
use Rattle.plan.proofs.Laws.Stores.{form-by}
use Rattle.deciding.proofs.form.form_stores.Goals as goal

pub returns : goal.returns
returns c = let e = form-by _ _ _ c.number.ensures c.session_of-w.ensures c.all_used-cleared.ensures c.take_over.ensures.stores in search (rules, e)
