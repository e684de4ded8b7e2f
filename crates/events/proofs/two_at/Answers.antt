-- Two bytes make a number.
use Rattle.lines.proofs.Laws.Frame.{two-drop}
use Rattle.lines.specs.Hex.{unhex}
use native.Mathlib.Omega.{arith}
use Rattle.events.proofs.two_at.Goals as goal

pub returns : goal.returns
returns c = omega (arith, two-drop (unhex c.args.l.now) c.args.at)
