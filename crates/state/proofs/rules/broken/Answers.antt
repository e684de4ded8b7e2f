-- The short test says that no rule is broken; else the first broken one is looked for.
use mathlib.Core.Path.{sym, ◌∙◌}
use native.Mathlib.Omega.{arith}
use borrow.Author.Tests.{eqb-true}
use Rattle.state.proofs.rules.broken.Goals as goal

pub keeps_all-requires : goal.keeps_all-requires
keeps_all-requires c = (omega arith, omega arith, c.formed_kept-fit.ensures)

pub returns-then-keeps_all : goal.returns-then-keeps_all
returns-then-keeps_all c = sym (eqb-true _ 0 (sym c.keeps_all.ensures ∙ c.if-keeps_all.true))
