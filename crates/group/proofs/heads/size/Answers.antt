-- The count of ones of sixteen bits is the size.
use Rattle.group.proofs.Laws.Heads.{ones-size}
use Rattle.group.proofs.heads.size.Goals as goal

pub returns : goal.returns
returns c = ones-size c.args.s c.ranges.s.fits
