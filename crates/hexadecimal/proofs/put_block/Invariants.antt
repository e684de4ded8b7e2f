-- Before turn k the first at + k bytes of the frame are there: a byte is made of the values of its two digits.
use mathlib.Core.Path.{◌≡◌}
use Prim.Native.Nat.{◌+◌}
use lib.ListN.{take}
use Rattle.lines.specs.Hex.{unhex}
use Rattle.hexadecimal.proofs.put_block.Given as goal

abbrev pub invariant-loop-k : goal.invariant-loop-k
invariant-loop-k l = take (l.at + l.k) l.a ≡ take (l.at + l.k) (unhex l.s)
