-- Before turn i the bytes of the first i sessions are there.
use Rattle.std.proofs.Common.{◌≡◌, ℕ, ◌<◌, get_or, length, []}
use Rattle.lines.specs.Writing.{bytes6}
use Rattle.writer.proofs.block_bytes.Given as goal

abbrev pub invariant-loop-i : goal.invariant-loop-i
invariant-loop-i l = (length l.bytes ≡ 8) × ((k : ℕ) → k < l.i → get_or l.bytes k [] ≡ bytes6 (get_or l.words k 0))
