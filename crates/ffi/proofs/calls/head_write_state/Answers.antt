-- The session handed back is the one that the call was given (`state-hands-back`).
use native.Mathlib.Omega.{arith}
use Rattle.head.proofs.Laws.Writing.{state-hands-back}
use Rattle.ffi.proofs.calls.head_write_state.Goals as goal

pub returns : goal.returns
returns c = grind (arith, state-hands-back c.args.session c.args.words.now c.args.out.now)
