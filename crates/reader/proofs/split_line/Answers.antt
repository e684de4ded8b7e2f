-- The line is cut at its newline, and the rest begins after it.
use Rattle.std.proofs.Common.{ap, ◌∙◌, ℕ, ◌+◌, take, arith, add-one}
use Rattle.lines.specs.Hex.{line_of, rest_of}
use Rattle.lines.proofs.Laws.Hex.{part-drop}
use Rattle.reader.proofs.split_line.Goals as goal

pub returns-then-end-s : goal.returns-then-end-s
unfolding line_of rest_of
returns-then-end-s c =
    let s = c.args.s.now in
    let e = c.line_end-end in
    (omega (arith, e.ensures), ap (λ (k : ℕ). take k s) e.ensures, part-drop s (e.result + 1) ∙ rw (add-one e.result, e.ensures))
