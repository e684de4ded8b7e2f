-- The loop keeps both lengths and holds at most 420 bytes.
use Prim.Native.Nat.{◌≤◌}
use mathlib.Core.Path.{◌≡◌}
use lib.ListN.{length}
use Rattle.frames.proofs.run.Given as goal

abbrev pub invariant-loop : goal.invariant-loop
invariant-loop g l = (length l.buf ≡ length l.initial.buf) × (length l.out ≡ length l.initial.out) × (l.held ≤ 420)
