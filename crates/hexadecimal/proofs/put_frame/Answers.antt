-- A block's bytes are those of the frame at its place, and then each byte that is left.
use Rattle.std.proofs.Common.{arith, refl}
use Rattle.lines.proofs.Laws.Hex.{decoded-more, decoded-all}
use Rattle.hexadecimal.proofs.put_frame.Goals as goal

pub loop-i-preserved : goal.loop-i-preserved
loop-i-preserved c =
    let l = c.loop-i in
    rw c.byte_at.ensures (decoded-more c.args.s.now l.a l.i (omega arith) (omega arith) l.invariant)

pub returns : goal.returns
returns c =
    let l = c.loop-i in
    decoded-all c.args.s.now l.a l.i _ refl (omega arith) l.invariant
