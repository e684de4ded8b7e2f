-- At each session what was put, and the lines of those that are left, are the lines of all.
use Rattle.std.proofs.Common.{◌≡◌, ◌++◌, ◌+◌, ◌*◌, ◌≤◌, length, drop}
use Rattle.text.specs.Printer.{written}
use Rattle.printing.specs.Texts.{session_lines}
use Rattle.printing.proofs.put_sessions.Given as goal

abbrev pub invariant-loop-w : goal.invariant-loop-w
invariant-loop-w l =
    (l.printer.out.ghost_name ≡ l.initial.printer.out.ghost_name)
    × (length l.printer.out.now ≡ length l.initial.printer.out.now)
    × (l.printer.end ≤ l.initial.printer.end + 33 * l.w-index)
    × (written l.printer ++ session_lines l.before (drop l.w-index l.formed) ≡ written l.initial.printer ++ session_lines 0 l.formed)
