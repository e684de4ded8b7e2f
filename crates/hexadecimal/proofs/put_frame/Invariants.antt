-- Before each turn the bytes before it are there, whole blocks of them and then each.
use mathlib.Core.Path.{◌≡◌}
use Prim.Native.Nat.{◌≤◌, ◌-◌}
use lib.ListN.{take}
use Rattle.lines.specs.Hex.{unhex}
use Rattle.hexadecimal.proofs.put_frame.Given as goal

abbrev pub invariant-loop-from : goal.invariant-loop-from
invariant-loop-from l = (l.from ≤ l.n) × (take l.from l.a ≡ take l.from (unhex l.s))

abbrev pub decreases-loop-from : goal.decreases-loop-from
decreases-loop-from l = l.n - l.from

abbrev pub invariant-loop-i : goal.invariant-loop-i
invariant-loop-i l = take l.i l.a ≡ take l.i (unhex l.s)
