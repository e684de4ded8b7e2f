-- Each element of the array is its index's test.
use mathlib.Core.Bool.{false}
use Rattle.std.proofs.Common.{rules}
use Rattle.loops.proofs.Laws.Chains.{from_fn-table}
use Rattle.recovery.specs.Changes.{past}
use Rattle.learning.proofs.adoption.all_past.Goals as goal

pub returns : goal.returns
returns c = from_fn-table _ (past c.args.rec.now c.args.w) false 16 c.from_fn.ensures.items (λ i r q k. search rules)
