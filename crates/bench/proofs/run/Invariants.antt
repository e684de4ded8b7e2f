-- The bench and the buffer stand in two locals of the function that holds the loop; each is lent to a call and comes back. The loop keeps what is known of the world
-- (`Calm`), and each read uses up one that was left to make.
use Rattle.bench.proofs.Laws.{Calm}
use Rattle.bench.proofs.run.Given as goal

abbrev pub invariant-loop-desk : goal.invariant-loop-desk
invariant-loop-desk g l = Calm l.desk.world

abbrev pub decreases-loop-desk : goal.decreases-loop-desk
decreases-loop-desk g l = l.desk.world.turns
