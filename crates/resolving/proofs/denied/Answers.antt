-- The chain goes over the heads with what is held of them.
use mathlib.Core.Path.{◌∙◌}
use mathlib.Core.Bool.{not, ◌&&◌}
use lib.Dec.{eqb}
use Rattle.std.proofs.Common.{rules, tests, arith}
use Rattle.std.proofs.lemmas.Iterator.{YieldsList-from_slice}
use Rattle.std.proofs.lemmas.Iterator.Consumers.{YieldsList-from_enumerate}
use Rattle.std.proofs.lemmas.Iterator.Search.{any_from_yields_List}
use Rattle.loops.proofs.Laws.Chains.{any-enumerate}
use Rattle.group.specs.Heads.{has}
use Rattle.plan.specs.Clearing.{lists, behind}
use Rattle.plan.specs.Members.{absent}
use Rattle.plan.proofs.Laws.Branches.{denies-by}
use Rattle.resolving.proofs.denied.Goals as goal

pub returns : goal.returns
returns c =
    let m = c.args.m in
    let w = c.args.w in
    let states = c.args.held.now.of in
    any_from_yields_List (λ p. has w p.0 && (has m p.0 && not (eqb p.0 c.own-p.result)) && not (lists p.1 w) && behind p.1.primary w) _ _ c.any.result c.any.ensures.ran
    (YieldsList-from_enumerate (YieldsList-from_slice states cc) (cc)) (λ x b q k. search (rules, tests))
    ∙ any-enumerate _ _ states absent 16 (omega arith) (λ q h. denies-by m c.args.held.now c.args.rec.now q c.own-p.ensures.0 w)
