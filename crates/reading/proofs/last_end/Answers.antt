-- The last newline ends the last whole line.
use Rattle.reading.proofs.Laws.{last-ends, none-ends}
use Rattle.reading.proofs.last_end.Goals as goal

pub returns-in-Some : goal.returns-in-Some
returns-in-Some c =
    let e = c.in-Some.ensures in
    last-ends c.args.s.now c.in-Some.i e.0 e.1 e.2

pub returns-in-None : goal.returns-in-None
returns-in-None c = none-ends c.args.s.now c.in-None.ensures
