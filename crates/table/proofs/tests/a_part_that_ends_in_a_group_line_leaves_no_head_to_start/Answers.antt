-- The lines of the part all end, and there is room for what they print.
use Rattle.std.proofs.Common.{refl, arith}
use Rattle.lines.specs.Walk.{begun}
use Rattle.table.proofs.tests.a_part_that_ends_in_a_group_line_leaves_no_head_to_start.Goals as goal

pub feed-requires : goal.feed-requires
unfolding begun
feed-requires g c =
    let e = c.desk_for-desk.ensures in
    record { views-in = omega (arith, e.3); formed-in = omega (arith, e.4); within = omega (arith, e.1); ends = rw (e.0, e.1) refl; room = omega (arith, e.0, e.1, e.2) }
