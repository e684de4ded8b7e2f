-- A last formed that is in order is a session word, as last primary is.
use mathlib.Core.Path.{◌∙◌}
use Rattle.record.proofs.Laws.Fewer.{formed-test}
use Rattle.whole.proofs.formed_whole.Goals as goal

pub returns : goal.returns
returns c = c.formed_fits.ensures ∙ formed-test _ _ _ _ c.requires.0 c.requires.2
