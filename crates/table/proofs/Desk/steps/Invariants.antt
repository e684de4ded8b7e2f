-- Before each step the counts are within the lists, what the lines left would make of the bench is what all lines make of it at first, and each step is nearer the end.
use Rattle.std.proofs.Common.{◌≡◌, []}
use Rattle.lines.specs.Walk.{whole_lines}
use Rattle.asking.specs.Asking.{left}
use Rattle.worlds.specs.Bench.{played}
use Rattle.worlds.specs.Desk.{SamePart, to_go}
use Rattle.table.specs.Held.{HoldsStarting, stands_as_started}
use Rattle.table.proofs.Desk.steps.Given as goal

abbrev pub invariant-loop-self : goal.invariant-loop-self
invariant-loop-self l = record {
  holds : HoldsStarting l.s l.out l.self;
  rest : played (whole_lines [] (left l.s l.self.world)) (stands_as_started l.out l.self) ≡ played (whole_lines [] (left l.s l.initial.self.world)) (stands_as_started l.initial.out l.initial.self);
  part : SamePart l.initial.self.world l.self.world;
}

abbrev pub decreases-loop-self : goal.decreases-loop-self
decreases-loop-self l = to_go l.self.world
