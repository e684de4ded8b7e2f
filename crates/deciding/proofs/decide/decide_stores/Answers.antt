-- a to c, then d: where the pen is not cut, d reads the record as after c.
use Rattle.std.proofs.Common.{arith}
use Rattle.deciding.proofs.Laws.Call.{decide-chain}
use Rattle.deciding.proofs.decide.decide_stores.Goals as goal

pub returns : goal.returns
returns c = let e = decide-chain _ _ _ _ c.learn.ensures.stores _ c.conclude-answer.ensures.stored.stores c.conclude-answer.ensures.answered in grind (arith, e)
