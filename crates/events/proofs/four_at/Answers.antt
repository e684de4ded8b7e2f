-- Four bytes make a number.
use Rattle.lines.proofs.Laws.Frame.{four_bytes}
use Rattle.lines.specs.Hex.{unhex}
use native.Mathlib.Omega.{arith}
use Rattle.events.proofs.four_at.Goals as goal

pub returns : goal.returns
returns c = omega (arith, four_bytes (unhex c.args.l.now) c.args.at)
