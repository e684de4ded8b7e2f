-- In each loop the copy is what the steps before it left, with those of its own that are passed.
use native.Mathlib.Omega.{arith}
use Rattle.recovery.specs.Recover.{formed_step, clear_step, wipe_step}
use Rattle.recovered.proofs.Laws.Steps.{taken_none, taken-again, taken-all, steps-mend}
use Rattle.recovered.proofs.mended.Goals as goal

pub loop-q-init : goal.loop-q-init
loop-q-init c = taken_none formed_step _

pub loop-q-preserved : goal.loop-q-preserved
loop-q-preserved c = taken-again formed_step _ _ c.loop-q.invariant c.formed_one.ensures

pub loop-i-init : goal.loop-i-init
loop-i-init c = taken_none clear_step _

pub loop-i-preserved : goal.loop-i-preserved
loop-i-preserved c = taken-again clear_step _ _ c.loop-i.invariant c.clear_one.ensures

pub loop-j-init : goal.loop-j-init
loop-j-init c = taken_none wipe_step _

pub loop-j-preserved : goal.loop-j-preserved
loop-j-preserved c = taken-again wipe_step _ _ c.loop-j.invariant c.wipe_one.ensures

pub returns : goal.returns
returns c = steps-mend _ c.greatest.ensures c.set.ensures (taken-all formed_step _ _ 16 (omega arith) (omega arith) c.loop-q.invariant) (taken-all clear_step _ _ 16 (omega arith) (omega arith) c.loop-i.invariant) (taken-all wipe_step _ _ 16 (omega arith) (omega arith) c.loop-j.invariant)
