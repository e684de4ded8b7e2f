-- The session handed back is the one that the call was given (`attempt-hands-back`).
use native.Mathlib.Omega.{arith}
use Rattle.head.proofs.Laws.Writing.{attempt-hands-back}
use Rattle.ffi.proofs.calls.head_write_attempt.Goals as goal

pub returns : goal.returns
returns c = grind (arith, attempt-hands-back c.args.session c.args.words.now c.args.out.now)
