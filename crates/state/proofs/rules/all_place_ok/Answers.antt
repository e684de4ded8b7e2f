-- Before turn i the answer is the test of all places below i, and the place before is the last of them.
use Rattle.std.proofs.Common.{refl, ◌∙◌, sym, add-one, arith}
use Rattle.loops.proofs.Laws.Tests.{all_none, all-again, all_end}
use Rattle.state.specs.Rules.{prior}
use Rattle.state.proofs.rules.all_place_ok.Goals as goal

pub loop-w-init : goal.loop-w-init
unfolding prior
loop-w-init c = (sym (all_none _), refl)

pub loop-w-preserved : goal.loop-w-preserved
unfolding prior
loop-w-preserved c =
    let l = c.loop-w in
    (all-again _ _ l.invariant.0 (c.place_ok-ok.ensures ∙ rw l.invariant.1), rw (add-one l.w-index))

pub returns : goal.returns
returns c = c.loop-w.invariant.0 ∙ all_end _ _ _ (omega arith) (omega arith)
