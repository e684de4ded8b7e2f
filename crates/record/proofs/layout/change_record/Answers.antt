-- At each turn the record and the pen are those after the words passed, and the words in order are the fields.
use native.Mathlib.Omega.{arith}
use mathlib.Core.Path.{ap, ◌∙◌}
use mathlib.Core.List.{List}
use Rattle.store.specs.Desk.{desk}
use Rattle.store.specs.Program.{Step, step_by, exec}
use Rattle.store.proofs.Laws.Program.{steps-start, steps-again, steps-done}
use Rattle.record.proofs.Laws.Words.{word_to, words-fields}
use Rattle.record.proofs.layout.change_record.Goals as goal

pub loop-at-init : goal.loop-at-init
loop-at-init c = steps-start (word_to _) _

pub loop-at-preserved : goal.loop-at-preserved
unfolding step_by word_to
loop-at-preserved c = steps-again (word_to c.args.to.now) (desk c.args.rec.now c.args.pen) _ c.loop-at.invariant c.change-pen.ensures

pub returns : goal.returns
returns c = c.loop-at.invariant ∙ steps-done (word_to _) _ _ 52 (omega arith) (omega arith) ∙ ap (λ (p : List Step). exec p (desk c.args.rec.now c.args.pen)) (words-fields _)
