-- A decide under a pen, that may be cut before.
use Rattle.std.specs.Prelude.{◌≡◌, false, List, ℕ, Ok}
use Rattle.group.specs.Answers.{said}
use Rattle.store.specs.declared.Pen.{Pen}
use Rattle.store.specs.Desk.{desk, is_cut}
use Rattle.store.specs.Program.{exec}
use Rattle.state.specs.declared.Held.{Held}
use Rattle.plan.specs.Decide.{decide_program, decide_answer}
use Rattle.deciding.specs.declared.decide.Decided.{Decided}

-- what `decide_stores` makes of record r under a pen: the stores of the program, and the answer unless the pen is cut
pub record Decides (m : ℕ) (held : Held) (r : List ℕ) (pen : Pen) (left : List ℕ) (d : Decided) : Type 0 where
  pub stores : desk left d.pen ≡ exec (decide_program m held) (desk r pen)
  pub says : is_cut d.pen ≡ false → said (Ok d.answer) ≡ decide_answer m held r
