-- Before turn i the first i bytes are spelled.
use mathlib.Core.Path.{◌∙◌, ap}
use lib.Seq.{take_all}
use native.Mathlib.Omega.{arith}
use Rattle.lines.specs.Writing.{spell}
use Rattle.lines.proofs.Laws.Writing.{spell-none, spell-more}
use Rattle.writer.proofs.put_bytes.Goals as goal

pub loop-i-init : goal.loop-i-init
loop-i-init c = spell-none _ _

pub loop-i-preserved : goal.loop-i-preserved
loop-i-preserved c = spell-more _ _ _ _ _ _ (omega arith) c.loop-i.invariant c.put_byte.ensures

pub returns : goal.returns
returns c = c.loop-i.invariant ∙ ap (spell _ _) (take_all c.loop-i.i c.args.s.now (omega arith))
