-- Where own head alone was heard nothing is held; else each slot is asked.
use mathlib.Core.Path.{sym, ◌∙◌}
use native.Mathlib.Omega.{arith}
use borrow.Author.Tests.{eq-eqb}
use Rattle.head.proofs.Laws.Fits.{own-alone-fits}
use Rattle.head.proofs.fits.held_fits.Goals as goal

pub returns-then-without_head-eq0 : goal.returns-then-without_head-eq0
returns-then-without_head-eq0 c =
    let a = c.args in
    eq-eqb _ _ c.if-without_head-eq0.true ∙ sym (own-alone-fits a.s.now.states a.me a.s.now.held (omega arith) (sym c.without_head.ensures ∙ c.if-without_head-eq0.true))
