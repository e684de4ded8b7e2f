-- The walk over the bytes, and then the last line's bytes moved to the front, all of them or 420.
use Rattle.std.proofs.Common.{◌∙◌, ap, ℕ, ◌-◌, length, take, drop, arith}
use Rattle.stream.proofs.Laws.Walk.{held-front}
use Rattle.stream.proofs.feed.Goals as goal

pub returns-clause-buf_after : goal.returns-clause-buf_after
returns-clause-buf_after c =
    let s = c.args.buf.now in
    let fed = c.print_lines-fed in
    c.keep.ensures
    ∙ ap (λ (k : ℕ). take k (drop (length s - fed.result.held) s)) c.min-held.ensures
    ∙ held-front s fed.result.held (omega arith) fed.ensures.s_value
