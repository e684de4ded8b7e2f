-- Each head is started at its place.
use Rattle.std.proofs.Common.{◌∙◌, ◌+◌, ◌-◌, sym, ap, arith}
use Rattle.std.proofs.Math.ListN.{set}
use Rattle.seat.specs.Played.{Played}
use Rattle.worlds.specs.Bench.{start_last}
use Rattle.worlds.proofs.Laws.Turn.{start-one, start-none}
use Rattle.table.proofs.start_last.Goals as goal

pub loop-p-preserved : goal.loop-p-preserved
loop-p-preserved c =
    let l = c.loop-p in
    let a = c.args in
    ap (λ (x : Played). start_last a.core a.least (16 - (l.p + 1)) (set l.table l.p x.seat)) c.starts.ensures ∙ start-one l.p a.core a.least l.table (omega arith) ∙ l.invariant

pub returns : goal.returns
returns c =
    let l = c.loop-p in
    sym (start-none l.p c.args.core c.args.least l.table (omega arith)) ∙ l.invariant
