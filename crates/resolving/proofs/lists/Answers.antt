-- The places that count are looked at.
use mathlib.Core.Path.{◌≡◌, ◌∙◌}
use lib.Dec.{eqb}
use lib.ListN.{take}
use Rattle.std.proofs.Common.{ℕ, Bool, rules}
use Rattle.std.specs.List.{list_any}
use Rattle.loops.proofs.Laws.Chains.{any-taken}
use Rattle.plan.specs.Clearing.{lists}
use Rattle.resolving.proofs.lists.Goals as goal

pub returns : goal.returns
unfolding lists
returns c =
    let st = c.args.st.now in
    let same : ℕ → Bool = λ place. eqb place c.args.w in
    let e : c.contains.result ≡ list_any same (take st.count st.places) = search rules in
    e ∙ any-taken same st.count st.places 0 16 c.listed.ensures.of_sixteen
