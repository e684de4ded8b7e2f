-- Before turn i the answer is the test of the first i characters.
use mathlib.Core.Path.{◌≡◌}
use lib.ListN.{take}
use Rattle.loops.specs.Below.{every}
use Rattle.lines.specs.Hex.{is_digit}
use Rattle.hexadecimal.proofs.digits.Given as goal

abbrev pub invariant-loop-c : goal.invariant-loop-c
invariant-loop-c l = l.ok ≡ every is_digit (take l.c-index l.s)
