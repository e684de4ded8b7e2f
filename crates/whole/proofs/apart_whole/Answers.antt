-- The chain asks each place before i; a number of at least 1 is no free place's.
use native.Mathlib.Omega.{arith}
use mathlib.Core.Path.{refl, ◌∙◌}
use mathlib.Core.Bool.{Bool, not}
use Prim.Native.Nat.{ℕ}
use lib.Dec.{eqb}
use Rattle.std.proofs.Common.{rules, tests}
use Rattle.std.proofs.lemmas.Iterator.{YieldsList-from_range}
use Rattle.std.proofs.lemmas.Iterator.Search.{all_from_yields_List}
use Rattle.loops.proofs.Laws.Chains.{all-range}
use Rattle.group.specs.Words.{num}
use Rattle.record.specs.Layout.{place_at}
use Rattle.record.specs.Whole.{apart, apart_whole}
use Rattle.record.proofs.Laws.Fewer.{apart-test}
use Rattle.whole.proofs.apart_whole.Goals as goal

pub returns : goal.returns
unfolding apart_whole
returns c =
    let r = c.args.rec.now in
    let i = c.args.i in
    let test : ℕ → Bool = λ j. not (eqb (num (place_at r i)) (num (place_at r j))) in
    all_from_yields_List test _ _ c.all.result c.all.ensures.ran (YieldsList-from_range 0 i i refl (omega arith)) (λ x b q k. search (rules, tests))
    ∙ all-range test (apart r i) i (λ j h. apart-test r i j c.requires.1)
