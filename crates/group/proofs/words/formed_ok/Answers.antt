-- The test is the definition, with numbers in place of ranks.
use native.Mathlib.Omega.{arith}
use Rattle.group.specs.Words.{formed_ok}
use Rattle.group.proofs.Laws.Formed.{lower-test}
use Rattle.group.proofs.words.formed_ok.Goals as goal

pub returns : goal.returns
unfolding formed_ok
returns c = let a = c.args in grind (arith, lower-test a.own a.p a.q a.w)
