-- The frame is spelled from the start, and the newline makes it a line.
use mathlib.Core.Path.{◌∙◌, ap}
use native.Mathlib.Omega.{arith}
use Rattle.lines.specs.Writing.{spell}
use Rattle.lines.proofs.Laws.Writing.{attempt-line}
use Rattle.writer.proofs.put_attempt.Goals as goal

pub returns : goal.returns
returns c = attempt-line _ _ c.args.view c.args.sender (omega arith) (c.put_bytes.ensures ∙ ap (spell _ 0) c.head_bytes.ensures)
