-- Before turn q both are the highest of the heads before q, and no head from the end on is a member.
use mathlib.Core.Path.{◌≡◌, sym, ap, ◌∙◌}
use mathlib.Core.Bool.{cond}
use Prim.Native.Nat.{ℕ, ◌<◌, max}
use lib.Dec.{ltb}
use lib.ListN.{get_or}
use Rattle.std.proofs.Common.{arith}
use Rattle.std.proofs.lemmas.List.{get_or-take}
use Rattle.loops.proofs.Laws.Fold.{fold-none, fold-again, fold_end}
use Rattle.group.specs.Words.{rank, highest_of}
use Rattle.state.specs.declared.State.{State}
use Rattle.plan.specs.Members.{absent, held_of}
use Rattle.plan.specs.Attempt.{primary_of, highest_number, highest_primary}
use Rattle.plan.proofs.Laws.Branches.{number_by, primary-by}
use Rattle.plan.proofs.Laws.Ends.{numbers-end, primaries-end}
use Rattle.attempting.proofs.highest_among.Goals as goal

pub loop-q-init : goal.loop-q-init
loop-q-init c = (sym (fold-none _ _), sym (fold-none _ _))

pub loop-q-preserved : goal.loop-q-preserved
loop-q-preserved c =
    let m = c.args.m in
    let held = c.args.held.now in
    let r = c.args.rec.now in
    let q = c.loop-q.q in
    let below : q < c.members_end.result = omega arith in
    let here : get_or c.split_at.result.0.now q absent ≡ held_of held q = rw c.split_at.ensures.front (get_or-take c.members_end.result held.of q absent below) in (
      fold-again _ _ q c.loop-q.invariant.0
          (c.max.ensures ∙ ap (max _) (c.of_member.ensures ∙ number_by m held r q c.own-me.ensures.0 c.number-mine.ensures (c.from.ensures ∙ ap (λ (st : State). st.number) here))),
      fold-again (λ k v. cond (ltb (rank v) (rank (primary_of m held r k))) (primary_of m held r k) v) _ q c.loop-q.invariant.1
          (c.higher.ensures ∙ ap (λ (v : ℕ). cond (ltb (rank c.loop-q.top.primary) (rank v)) v c.loop-q.top.primary) (c.of_member-in-loop-q.ensures ∙ rw here (primary-by m held r q c.own-me.ensures.0 c.primary-last.ensures))),
    )

pub returns : goal.returns
unfolding highest_number highest_primary highest_of
returns c =
    let l = c.loop-q in
    let e = c.members_end.ensures in (
      l.invariant.0 ∙ fold_end _ _ _ _ (omega arith) (omega arith) ∙ numbers-end _ _ _ _ e.1 e.0,
      l.invariant.1 ∙ fold_end _ _ _ _ (omega arith) (omega arith) ∙ primaries-end _ _ _ _ e.1 e.0,
    )
