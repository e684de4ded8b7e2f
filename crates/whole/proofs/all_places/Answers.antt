-- The chain asks each place what the definition asks.
use mathlib.Core.Path.{refl, ◌∙◌}
use mathlib.Core.Bool.{Bool, ◌&&◌}
use Prim.Native.Nat.{ℕ}
use Rattle.std.proofs.Common.{rules, tests}
use Rattle.std.proofs.lemmas.Iterator.{YieldsList-from_range}
use Rattle.std.proofs.lemmas.Iterator.Search.{all_from_yields_List}
use Rattle.loops.proofs.Laws.Chains.{all-range}
use Rattle.record.specs.Whole.{place_whole, apart_whole, marks_whole}
use Rattle.whole.proofs.all_places.Goals as goal

pub returns : goal.returns
returns c =
    let r = c.args.rec.now in
    let test : ℕ → Bool = λ i. place_whole r i && apart_whole r i && marks_whole r i in
    all_from_yields_List test _ _ c.all.result c.all.ensures.ran (YieldsList-from_range 0 16 16 refl refl) (λ x b q k. search (rules, tests))
    ∙ all-range test _ 16 (λ i h. refl)
