-- Two digits stand after those of the hundredth part.
use Rattle.std.proofs.Common.{arith}
use Rattle.std.proofs.lemmas.Grind.{common_steps}
use Rattle.text.proofs.Laws.Text.{last_none, last_one, last_two}
use Rattle.text.proofs.+put_digits.Goals as goal

pub returns-in-Some : goal.returns-in-Some
returns-in-Some t c = grind (arith, common_steps, last_two)

pub returns-in-Some-first_mut : goal.returns-in-Some-first_mut
returns-in-Some-first_mut t c = grind (arith, common_steps, last_one)

pub returns-in_default-first_mut : goal.returns-in_default-first_mut
returns-in_default-first_mut t c = grind (arith, common_steps, last_none)
