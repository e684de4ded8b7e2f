-- At each session what was put, and the lines of those that are left, are the lines of all.
use Rattle.std.proofs.Common.{arith}
use Rattle.std.proofs.lemmas.Grind.{common_steps}
use Rattle.printing.specs.Texts.{closing}
use Rattle.printing.proofs.Laws.{next_session, no_session}
use Rattle.printing.proofs.put_sessions.Goals as goal

pub loop-w-preserved : goal.loop-w-preserved
loop-w-preserved c =
    let l = c.loop-w in
    grind (arith, common_steps, next_session l.before c.args.formed.now l.w-index (omega arith), l.invariant, c.put_session.ensures)

pub returns : goal.returns
unfolding closing
returns c =
    let l = c.loop-w in
    grind (arith, common_steps, no_session l.before, l.invariant)
