-- A block with no newline is passed whole.
use Rattle.std.proofs.Common.{arith, ◌∙◌, ap, sym, ◌/◌, length, get_or, List, ℕ, [], false, Bool, ◌||◌, eqb}
use Rattle.std.specs.List.{fold}
use Rattle.hexadecimal.proofs.Laws.{block-passed}
use Rattle.hexadecimal.proofs.blocks_end.Goals as goal

pub loop-i-preserved : goal.loop-i-preserved
loop-i-preserved c =
    let s = c.args.s.now in
    let i = c.loop-i.i in
    let none = ap (λ (bs : List (List ℕ)). fold (λ (found : Bool) (x : ℕ). found || eqb x 10) false (get_or bs i [])) (sym c.as_chunks.ensures.front) ∙ sym c.has_newline.ensures ∙ c.if-has_newline.false in
    let past = block-passed s (length s / 32) i (omega (arith, c.as_chunks.ensures.front_len)) (omega arith) none in
    omega (arith, c.loop-i.invariant, past)
