-- The lines of the part all end, and there is room for what they print.
use Rattle.std.proofs.Common.{refl, arith}
use Rattle.lines.specs.Walk.{begun}
use Rattle.table.proofs.tests.a_turn_starts_all_heads.Goals as goal

pub turn-requires : goal.turn-requires
unfolding begun
turn-requires g c =
    let e = c.desk_for-desk.ensures in
    (omega (arith, e.0, e.1), record { views-in = omega (arith, e.3); formed-in = omega (arith, e.4); within = omega (arith, e.1); ends = rw (e.0, e.1) refl; room = omega (arith, e.0, e.1, e.2) })
