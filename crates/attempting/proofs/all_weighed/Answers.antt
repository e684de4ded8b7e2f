-- The chain goes over the heads below the end with what is held of them; nothing is asked of who is no member, and no head from the end on is one.
use mathlib.Core.Path.{refl, sym, ◌∙◌}
use mathlib.Core.Bool.{not, ◌||◌, cond}
use lib.Dec.{eqb}
use lib.ListN.{take}
use Rattle.std.proofs.Common.{rules, tests, arith}
use Rattle.std.proofs.lemmas.List.{length-take-le, get_or-take}
use Rattle.std.proofs.lemmas.Iterator.{YieldsList-from_slice}
use Rattle.std.proofs.lemmas.Iterator.Consumers.{YieldsList-from_enumerate}
use Rattle.std.proofs.lemmas.Iterator.Search.{all_from_yields_List}
use Rattle.loops.proofs.Laws.Chains.{all-enumerate, all-short}
use Rattle.group.specs.Heads.{has}
use Rattle.record.specs.Layout.{own}
use Rattle.plan.specs.Members.{absent}
use Rattle.plan.specs.Attempt.{own_weighed, state_weighed, listed_weighed}
use Rattle.plan.proofs.Laws.Weighing.{listed-not}
use Rattle.attempting.proofs.all_weighed.Goals as goal

pub returns : goal.returns
unfolding listed_weighed
returns c =
    let m = c.args.m in
    let r = c.args.rec.now in
    let top = c.args.top in
    let states = c.args.held.now.of in
    let end = c.members_end.result in
    all_from_yields_List (λ p. not (has m p.0) || cond (eqb p.0 (own r)) (own_weighed m r top) (state_weighed m r top p.1)) _ _ c.all.result c.all.ensures.ran
    (YieldsList-from_enumerate (YieldsList-from_slice (take end states) (grind arith)) (cc)) (λ x b q k. search (rules, tests))
    ∙ all-enumerate _ _ (take end states) absent end (length-take-le end states (omega arith)) (λ q h. rw (get_or-take end states q absent h))
    ∙ all-short _ (listed_weighed m c.args.held.now r top) end 16 (omega arith) (λ q h. refl) (λ q g h. sym (listed-not m c.args.held.now r top q (c.members_end.ensures.1 q g)))
