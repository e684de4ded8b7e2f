-- The place among what is left, after the blocks that have no newline.
use Rattle.std.proofs.Common.{arith, ◌≡◌, ◌∙◌, ap, ℕ, length, drop, take, ◌-◌, Option}
use Rattle.std.specs.Option.{unwrap_or}
use Rattle.lines.specs.Hex.{line_end}
use Rattle.lines.proofs.Laws.Hex.{part-drop}
use Rattle.hexadecimal.proofs.Laws.{newline, position-or-end, first-newline}
use Rattle.hexadecimal.proofs.line_end.Goals as goal

pub returns : goal.returns
returns c =
    let s = c.args.s.now in
    let from = c.blocks_end-from.result in
    let rest = take (length s - from) (drop from s) in
    let found : c.unwrap_or.result ≡ line_end (drop from s) =
    c.unwrap_or.ensures ∙ ap (λ (o : Option ℕ). unwrap_or o (length rest)) c.newline_at.ensures ∙ position-or-end newline rest ∙ first-newline rest ∙ ap line_end (part-drop s from) in
    omega (arith, found, c.blocks_end-from.ensures)
