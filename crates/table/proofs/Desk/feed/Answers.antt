-- The steps take every line; the heads that the last one leaves count as started in that bench, and are started before the call returns.
use Rattle.std.proofs.Common.{◌≡◌, refl, sym, subst}
use Rattle.worlds.specs.Bench.{start_last}
use Rattle.worlds.specs.Desk.{Fed}
use Rattle.table.specs.declared.Desk.{Desk}
use Rattle.table.specs.Held.{Holds, stands_for}
use Rattle.table.proofs.Laws.{settled-holds}
use Rattle.table.proofs.Desk.feed.Goals as goal

pub returns : goal.returns
unfolding start_last
returns c =
    let s = c.args.s.now in
    let d = c.args.self.now in
    let out = c.steps.new.out in
    let e = c.steps.ensures in
    let f = e.1 in
    subst (λ (x : Desk). Holds s out x × Fed s d.world (stands_for c.args.out.now d) (stands_for out x) x.world × (x.world.starting ≡ 0)) (sym c.start_left.ensures) (
      settled-holds s out c.steps.new.self e.0,
      record { bench = f.bench; done = f.done; part = record { stop = f.part.stop; end = f.part.end; turns = f.part.turns } },
      refl,
    )
