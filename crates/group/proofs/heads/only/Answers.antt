-- A one shifted left by h is the set of head h.
use Rattle.group.proofs.Laws.Heads.{shifted-only}
use Rattle.group.proofs.heads.only.Goals as goal

pub returns : goal.returns
returns c = shifted-only c.args.h c.requires
