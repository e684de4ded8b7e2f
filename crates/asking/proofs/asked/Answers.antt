-- The next line is the lent part of the input.
use native.Mathlib.Omega.{arith}
use Rattle.lines.proofs.Laws.Walk.{line-end-le}
use Rattle.asking.specs.Asking.{left}
use Rattle.asking.proofs.Laws.{length-left}
use Rattle.asking.proofs.asked.Goals as goal

pub overflow_add-next : goal.overflow_add-next
overflow_add-next c =
    let a = c.args in
    omega (arith, c.line_end.ensures, line-end-le (left a.s.now a.w), length-left a.s.now a.w c.requires.3)

pub overflow_add-next-2 : goal.overflow_add-next-2
overflow_add-next-2 c =
    let a = c.args in
    omega (arith, c.line_end.ensures, line-end-le (left a.s.now a.w), length-left a.s.now a.w c.requires.3)
