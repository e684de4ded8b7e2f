-- Before turn i the bytes of the first i sessions are there.
use Rattle.std.proofs.Common.{arith, get_or, []}
use Rattle.loops.proofs.Laws.Lists.{table_is}
use Rattle.lines.specs.Writing.{bytes6}
use Rattle.writer.proofs.block_bytes.Goals as goal

pub returns : goal.returns
returns c =
    let l = c.loop-i in
    table_is 8 (λ k. bytes6 (get_or c.args.words.now k 0)) [] l.bytes l.invariant.0 (λ k h. l.invariant.1 k (omega (arith, h)))
