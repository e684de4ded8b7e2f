-- At each head what was printed, and what the rest prints, is what the slice prints; the rest gets shorter.
use mathlib.Core.Path.{◌≡◌}
use lib.ListN.{length}
use Rattle.stream.proofs.Laws.Walk.{Walked}
use Rattle.stream.proofs.print_lines.Given as goal

abbrev pub invariant-loop-line : goal.invariant-loop-line
invariant-loop-line l =
    Walked l.s l.printer.out.now l.rest l.printer.end
    × (length l.printer.out.now ≡ length l.initial.printer.out.now)
    × (l.printer.out.ghost_name ≡ l.initial.printer.out.ghost_name)

abbrev pub decreases-loop-line : goal.decreases-loop-line
decreases-loop-line l = length l.rest
