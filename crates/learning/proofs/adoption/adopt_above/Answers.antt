-- The branches are the two of the test by rank.
use mathlib.Core.Path.{refl}
use Rattle.plan.proofs.Laws.Stores.{adopt-not, adopt-done}
use Rattle.learning.proofs.adoption.adopt_above.Goals as goal

pub returns-then-rank_of : goal.returns-then-rank_of
returns-then-rank_of c = record { lent = c.adopt.ensures.lent; stores = adopt-done _ _ _ c.rank_of-2.ensures c.primary.ensures c.rank_of.ensures c.if-rank_of.true c.adopt.ensures.stores }

pub returns-else-rank_of : goal.returns-else-rank_of
returns-else-rank_of c = record { lent = refl; stores = adopt-not _ _ _ c.rank_of-2.ensures c.primary.ensures c.rank_of.ensures c.if-rank_of.false }
