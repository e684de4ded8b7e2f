-- The tests are those of the definition but one, which follows from the others.
use Rattle.record.proofs.Laws.Fewer.{first-tests}
use Rattle.whole.proofs.first_whole.Goals as goal

pub returns : goal.returns
returns c = first-tests _ c.own.ensures.0 c.own.ensures.1 c.group_whole.ensures c.entered.ensures c.number-top.ensures c.primary-p.ensures c.primary_ok.ensures c.number_of.ensures
