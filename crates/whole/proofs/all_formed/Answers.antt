-- The chain asks each head what the definition asks. Own head and last primary are read once, before it.
use mathlib.Core.Path.{refl, ◌∙◌}
use Rattle.std.proofs.Common.{rules, tests}
use Rattle.std.proofs.lemmas.Iterator.{YieldsList-from_range}
use Rattle.std.proofs.lemmas.Iterator.Search.{all_from_yields_List}
use Rattle.loops.proofs.Laws.Chains.{all-range}
use Rattle.record.specs.Whole.{formed_whole}
use Rattle.whole.proofs.all_formed.Goals as goal

pub returns : goal.returns
unfolding formed_whole
returns c =
    all_from_yields_List (formed_whole c.args.rec.now) _ _ c.all.result c.all.ensures.ran (YieldsList-from_range 0 16 16 refl refl) (λ x b q k. search (rules, tests))
    ∙ all-range (formed_whole c.args.rec.now) _ 16 (λ q h. refl)
