-- The judged part is the first line, and nothing follows its newline.
use Rattle.std.proofs.Common.{◌≡◌, sym, ap, ◌∙◌, List, ℕ, ◌+◌, ◌<◌, length, suc, length-drop, arith}
use borrow.Author.Tests.{eqb-true, eqb-false}
use Rattle.lines.specs.Hex.{line_end, rest_of}
use Rattle.lines.specs.Reading.{judged}
use Rattle.lines.proofs.Laws.Reading.{whole-line, not-whole}
use Rattle.reader.proofs.read_whole.Goals as goal

-- how much comes after the first line
rest-length : (s : List ℕ) → line_end s < length s → length (rest_of s) + line_end s + 1 ≡ length s
unfolding rest_of
rest-length s h = omega (arith, length-drop (suc (line_end s)) s)

pub returns-in-Some : goal.returns-in-Some
returns-in-Some c =
    let s = c.args.s.now in
    let e = c.in-Some.ensures in
    let none : length (rest_of s) ≡ 0 = rw (← e.2) (eqb-true _ 0 (sym c.if-is_empty.ensures)) in
    c.judge.ensures ∙ ap judged e.1 ∙ sym (whole-line s (omega (arith, rest-length s e.0)))

pub returns-in_default : goal.returns-in_default
returns-in_default c =
    let s = c.args.s.now in
    let e = c.in-Some.ensures in
    let some : length (rest_of s) ≡ 0 → ⊥ = rw (← e.2) (eqb-false _ 0 (sym c.if-is_empty.ensures)) in
    sym (not-whole s (λ z. some (omega (arith, rest-length s e.0))))

pub returns-in_default-2 : goal.returns-in_default-2
returns-in_default-2 c =
    let none = rw c.in_default.is at c.split_line.ensures in
    sym (not-whole c.args.s.now (λ z. omega arith))
