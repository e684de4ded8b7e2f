-- A head that was started, or the parts of what is kept of a line.
use Rattle.std.proofs.Common.{rules}
use Rattle.noting.proofs.Laws.{told-start, told_line}
use Rattle.noting.proofs.told.Goals as goal

pub returns-then-w-gt0 : goal.returns-then-w-gt0
returns-then-w-gt0 c = told-start c.args.w _ _ _ _ _ c.if-w-gt0.true c.requires.1 c.one_started.ensures

pub returns : goal.returns
returns c =
    let p = c.put_reply.ensures in
    told_line c.args.w c.args.o c.args.d _ _ _ _ _ _ _ _ c.if-w-gt0.false c.kept_by.ensures c.onward.ensures c.note-n.ensures.0 c.note-n.ensures.1 p.most (let d = p.then in search (rules, d))
