-- The part after the newline, or the empty part at the end: both are what `drop` leaves.
use mathlib.Core.Path.{◌≡◌, ap, ◌∙◌, sym}
use Prim.Native.Nat.{ℕ, ◌+◌, suc}
use lib.ListN.{drop, length, drop_of_length-le}
use Rattle.lines.specs.Hex.{rest_of, line_end}
use Rattle.lines.proofs.Laws.Hex.{part-drop}
use native.Mathlib.Omega.{arith}
use Rattle.hexadecimal.proofs.rest.Goals as goal

pub returns-then-end-s : goal.returns-then-end-s
unfolding rest_of
returns-then-end-s c =
    let s = c.args.s.now in
    let next : c.line_end-end.result + 1 ≡ suc (line_end s) = omega (arith, c.line_end-end.ensures) in
    part-drop s (c.line_end-end.result + 1) ∙ ap (λ (k : ℕ). drop k s) next

pub returns-else-end-s : goal.returns-else-end-s
unfolding rest_of
returns-else-end-s c =
    let s = c.args.s.now in
    part-drop s (length s) ∙ (drop_of_length-le s {i = length s} (omega arith) ∙ sym (drop_of_length-le s {i = suc (line_end s)} (omega (arith, c.line_end-end.ensures))))
