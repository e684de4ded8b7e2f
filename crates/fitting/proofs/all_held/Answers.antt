-- The chain goes over the heads with what is held of them.
use mathlib.Core.Path.{refl, ◌∙◌}
use Rattle.std.proofs.Common.{rules, tests, arith}
use Rattle.std.proofs.lemmas.Iterator.{YieldsList-from_slice}
use Rattle.std.proofs.lemmas.Iterator.Consumers.{YieldsList-from_enumerate}
use Rattle.std.proofs.lemmas.Iterator.Search.{all_from_yields_List}
use Rattle.loops.proofs.Laws.Chains.{all-enumerate}
use Rattle.plan.specs.Members.{absent}
use Rattle.fitting.specs.Fits.{state_fits}
use Rattle.fitting.proofs.all_held.Goals as goal

pub returns : goal.returns
returns c =
    let states = c.args.held.now.of in
    all_from_yields_List (λ p. state_fits c.args.states c.args.me p.0 p.1) _ _ c.all.result c.all.ensures.ran
    (YieldsList-from_enumerate (YieldsList-from_slice states cc) (cc)) (λ x b q k. search (rules, tests))
    ∙ all-enumerate _ _ states absent 16 (omega arith) (λ q h. refl)
