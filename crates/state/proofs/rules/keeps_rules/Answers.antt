-- Past the test of the count, the rules may be asked.
use Rattle.state.specs.Rules.{keeps_rules}
use borrow.Author.Tests.{lt-leb, le-leb}
use mathlib.Core.Path.{refl, ◌∙◌}
use Rattle.loops.proofs.Laws.Chains.{all-enumerate}
use native.Mathlib.Omega.{arith}
use Rattle.state.proofs.rules.keeps_rules.Goals as goal

pub returns-then-st-gt-PLACES : goal.returns-then-st-gt-PLACES
unfolding keeps_rules
returns-then-st-gt-PLACES c = simp (lt-leb c.args.st.now.count 16 (omega arith))

pub keeps_all-requires : goal.keeps_all-requires
keeps_all-requires c = (c.requires, omega arith, c.all_formed_fit-fit.ensures ∙ all-enumerate _ _ c.args.st.now.formed 0 16 (omega arith) (λ q h. refl))

pub returns : goal.returns
unfolding keeps_rules
returns c = simp (le-leb c.args.st.now.count 16 (omega arith), c.keeps_all.ensures)
