-- Before each turn there is no newline in the blocks before it.
use mathlib.Core.Path.{◌≡◌}
use Prim.Native.Nat.{◌+◌, ◌*◌}
use lib.ListN.{drop}
use Rattle.lines.specs.Hex.{line_end}
use Rattle.hexadecimal.proofs.blocks_end.Given as goal

abbrev pub invariant-loop-i : goal.invariant-loop-i
invariant-loop-i l = line_end l.s ≡ l.i * 32 + line_end (drop (l.i * 32) l.s)
