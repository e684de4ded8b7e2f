-- Each element of the array says whether its place is used.
use mathlib.Core.Bool.{false, not}
use lib.Dec.{eqb}
use Rattle.std.proofs.Common.{rules}
use Rattle.loops.proofs.Laws.Chains.{from_fn-table}
use Rattle.record.specs.Layout.{place_at}
use Rattle.deciding.proofs.form.all_used.Goals as goal

pub returns : goal.returns
returns c = from_fn-table _ (λ i. not (eqb (place_at c.args.rec.now i) 0)) false 16 c.from_fn.ensures.items (λ i r q k. search rules)
