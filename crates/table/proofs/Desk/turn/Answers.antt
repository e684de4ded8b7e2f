-- A step from a desk with no head left to start takes a line; the heads that it leaves count as started in that bench, and are started before the call returns (`as-turned`).
use Rattle.std.proofs.Common.{◌≡◌, refl, sym, subst}
use Rattle.worlds.specs.Bench.{start_last}
use Rattle.worlds.specs.Desk.{Turned}
use Rattle.worlds.proofs.Laws.Turn.{as-turned}
use Rattle.table.specs.declared.Desk.{Desk}
use Rattle.table.specs.Held.{Holds, stands_for}
use Rattle.table.proofs.Laws.{settled-holds}
use Rattle.table.proofs.Desk.turn.Goals as goal

pub returns : goal.returns
unfolding start_last
returns c =
    let s = c.args.s.now in
    let d = c.args.self.now in
    let out = c.step.new.out in
    let e = c.step.ensures in
    subst (λ (x : Desk). Holds s out x × Turned s d.world (stands_for c.args.out.now d) (stands_for out x) x.world × (x.world.starting ≡ 0)) (sym c.start_left.ensures)
    (settled-holds s out c.step.new.self e.0, as-turned s d.world c.step.new.self.world _ _ e.1, refl)
