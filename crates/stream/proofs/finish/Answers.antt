-- Held bytes are one line, none if there are none, and without a newline they break rule 1.
use Rattle.std.proofs.Common.{◌≡◌, sym, ◌∙◌, rules}
use borrow.Author.Tests.{eqb-true, eqb-false}
use Rattle.stream.proofs.Laws.Walk.{last_none, last-first, last-refused}
use Rattle.text.specs.Printer.{written}
use Rattle.lines.specs.Walk.{last_line}
use Rattle.shown.specs.Shown.{printed}
use Rattle.stream.proofs.finish.Goals.{in-Some, in-None}
use Rattle.stream.proofs.finish.Goals as goal

pub returns-then-is_empty-clause-out_after : goal.returns-then-is_empty-clause-out_after
returns-then-is_empty-clause-out_after c = last_none _ (eqb-true _ 0 (sym c.if-is_empty.ensures))

pub returns-clause-out_after : goal.returns-clause-out_after
returns-clause-out_after c =
    let s = c.args.held.now in
    let z = eqb-false _ 0 (sym c.if-is_empty.ensures) in
    let d : written c.match-split_line.printer ≡ printed (last_line s) =
    elim c.match-split_line.branch [
      | in-Some w ↦ let e = w.in-Some.ensures in rw w.printer-is (w.print_line.ensures.then ∙ last-first s _ z e.0 e.1)
      | in-None w ↦ rw w.printer-is (w.print_refused.ensures.then ∙ last-refused s z w.in-None.ensures)
    ] in search (rules, d)
