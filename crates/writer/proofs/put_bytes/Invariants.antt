-- Before turn i the first i bytes are spelled.
use mathlib.Core.Path.{◌≡◌}
use lib.ListN.{take}
use Rattle.lines.specs.Writing.{spell}
use Rattle.writer.proofs.put_bytes.Given as goal

abbrev pub invariant-loop-i : goal.invariant-loop-i
invariant-loop-i l = l.out ≡ spell l.fn.out l.at (take l.i l.s)
