-- A number has one digit more than the power of ten that it reaches, and its last digits, up to their count, are all of them.
use Rattle.std.proofs.Common.{arith}
use Rattle.std.proofs.lemmas.Grind.{common_steps}
use Rattle.text.proofs.Laws.Text.{decimal-one, decimal-power, decimal-last}
use Rattle.text.proofs.Printer.put_decimal.Goals as goal

pub returns-then-n-lt10 : goal.returns-then-n-lt10
returns-then-n-lt10 c = grind (arith, common_steps, decimal-one)

pub returns : goal.returns
returns c =
    let k = c.ilog10 in
    let d = decimal-power k.result c.args.n k.ensures.power_le k.ensures.next_power_gt k.ensures.bound in
    grind (arith, common_steps, d, decimal-last c.args.n, c.put_digits.ensures)
