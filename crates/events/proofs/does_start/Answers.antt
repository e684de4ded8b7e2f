-- Start answers that it started exactly where the definition says that it can.
use Rattle.events.proofs.Laws.{ok-starts}
use Rattle.std.proofs.Common.{◌∙◌}
use Rattle.events.proofs.does_start.Goals as goal

pub returns : goal.returns
returns c = c.is_ok.ensures.value ∙ ok-starts _ _ _ _ c.start.ensures
