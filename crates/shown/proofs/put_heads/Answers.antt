-- The heads are put byte by byte.
use Rattle.std.proofs.Common.{arith}
use Rattle.std.proofs.lemmas.Grind.{common_steps}
use Rattle.shown.proofs.Laws.{heads_in_bytes}
use Rattle.shown.proofs.put_heads.Goals as goal

pub returns : goal.returns
returns c = rw (heads_in_bytes c.args.w) (grind (arith, common_steps))
