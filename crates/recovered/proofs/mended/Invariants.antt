-- In each loop the copy is what the steps before it left, with those of its own that are passed.
use mathlib.Core.Path.{◌≡◌}
use Rattle.store.specs.Program.{after, up_to}
use Rattle.recovery.specs.Recover.{formed_step, clear_step, wipe_step}
use Rattle.recovered.proofs.mended.Given as goal

abbrev pub invariant-loop-q : goal.invariant-loop-q
invariant-loop-q l = l.to ≡ after (up_to l.q formed_step) l.initial.to

abbrev pub invariant-loop-i : goal.invariant-loop-i
invariant-loop-i l = l.to ≡ after (up_to l.i clear_step) l.initial.to

abbrev pub invariant-loop-j : goal.invariant-loop-j
invariant-loop-j l = l.to ≡ after (up_to l.j wipe_step) l.initial.to
