-- Two stores spell a byte.
use Rattle.lines.proofs.Laws.Writing.{spell-byte}
use lib.ListN.{length-set}
use native.Mathlib.Omega.{arith}
use Rattle.writer.proofs.put_byte.Goals as goal

pub bounds-out-i-2 : goal.bounds-out-i-2
bounds-out-i-2 c = simp length-set (omega arith)

pub returns : goal.returns
returns c = rw (c.digit_of.ensures, c.digit_of-2.ensures) (spell-byte _ _ _)
