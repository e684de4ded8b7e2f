-- Each return is the case of the definition that the tests before it leave.
use Rattle.std.proofs.Common.{sym, ap, length, arith}
use Rattle.std.proofs.lemmas.Result.{err_from_is_err_and}
use Rattle.lines.proofs.Laws.Hex.{length-unhex}
use Rattle.lines.proofs.Laws.Reading.{attempt-length, attempt-head, attempt-kept}
use Rattle.reader.proofs.judge_attempt.Goals as goal

pub returns-then-l-ne12 : goal.returns-then-l-ne12
returns-then-l-ne12 c = sym (attempt-length _ c.requires.0 c.requires.1 c.if-l-ne12.true)

pub head_of-requires : goal.head_of-requires
head_of-requires c = omega (arith, ap length c.requires.2, length-unhex c.args.l.now)

pub returns-in_err-view : goal.returns-in_err-view
returns-in_err-view c =
    let p = err_from_is_err_and c.from_residual.result c.from_residual.ensures.1 in
    let e = c.in_err-view.ensures in
    rw (p.1, p.2, e.1) (sym (attempt-head _ c.requires.0 c.requires.1 c.if-l-ne12.false (rw (← c.requires.2) e.0)))

pub returns : goal.returns
returns c =
    let e = c.in_ok-view.ensures in
    rw (e.1, e.2, c.requires.2) (sym (attempt-kept _ c.requires.0 c.requires.1 c.if-l-ne12.false (rw (← c.requires.2) e.0)))
