-- The judged part is the first line.
use Rattle.std.proofs.Common.{sym, ap, ◌∙◌}
use Rattle.lines.specs.Reading.{judged}
use Rattle.lines.proofs.Laws.Reading.{first-line, no_line-breaks}
use Rattle.reader.proofs.read_line.Goals as goal

pub returns-in-Some : goal.returns-in-Some
returns-in-Some c =
    let e = c.in-Some.ensures in
    c.judge.ensures ∙ ap judged e.1 ∙ sym (first-line c.args.s.now e.0)

pub returns-in-None : goal.returns-in-None
returns-in-None c = sym (no_line-breaks c.args.s.now c.in-None.ensures)
