-- Before turn i the answer is the test of the first i characters.
use mathlib.Core.Path.{refl, ◌∙◌, ap}
use lib.Seq.{take_all}
use Rattle.loops.specs.Below.{every}
use Rattle.lines.specs.Hex.{is_digit}
use Rattle.lines.proofs.Laws.Hex.{every_take}
use native.Mathlib.Omega.{arith}
use Rattle.hexadecimal.proofs.digits.Goals as goal

pub loop-c-init : goal.loop-c-init
unfolding every
loop-c-init c = refl

pub loop-c-preserved : goal.loop-c-preserved
loop-c-preserved c = cc (c.is_digit-ok.ensures, c.loop-c.invariant, every_take is_digit c.args.s.now c.loop-c.c-index (omega arith))

pub returns : goal.returns
returns c = c.loop-c.invariant ∙ ap (every is_digit) (take_all c.loop-c.c-index c.args.s.now (omega arith))
