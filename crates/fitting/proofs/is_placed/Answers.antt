-- The sixteen places are looked at.
use mathlib.Core.Path.{◌≡◌, ap, ◌∙◌}
use lib.Dec.{eqb}
use Rattle.std.proofs.Common.{ℕ, Bool, rules}
use Rattle.std.specs.List.{list_any}
use Rattle.loops.proofs.Laws.Chains.{any-chain}
use Rattle.record.specs.Layout.{places}
use Rattle.record.proofs.Laws.Words.{length-places, place-in}
use Rattle.fitting.proofs.is_placed.Goals as goal

pub returns : goal.returns
returns c =
    let r = c.args.rec.now in
    let same : ℕ → Bool = λ place. eqb place c.args.w in
    let e : c.contains.result ≡ list_any same (places r) = search rules in
    e ∙ any-chain same _ (places r) 0 16 (length-places r) (λ i h. ap same (place-in r i h))
