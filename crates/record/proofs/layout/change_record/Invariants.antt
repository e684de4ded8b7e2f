-- At each turn the record and the pen are those after the words passed, and the words in order are the fields.
use mathlib.Core.Path.{◌≡◌}
use Rattle.store.specs.Desk.{desk}
use Rattle.store.specs.Program.{exec, up_to}
use Rattle.record.proofs.Laws.Words.{word_to}
use Rattle.record.proofs.layout.change_record.Given as goal

abbrev pub invariant-loop-at : goal.invariant-loop-at
invariant-loop-at l = desk l.rec l.pen ≡ exec (up_to l.at (word_to l.to)) (desk l.initial.rec l.initial.pen)
