-- `group::Group::fresh` meets its contract. The loop over the heads is `fold_below` of its step, and `Laws.Fresh` says what that gives.
use mathlib.Core.Path.{refl, sym, ap, ◌∙◌}
use Prim.Native.Nat.{ℕ}
use native.Mathlib.Omega.{arith}
use Rattle.loops.specs.Below.{fold_below}
use Rattle.group.specs.Heads.{has}
use Rattle.group.specs.Fresh.{group_word}
use Rattle.loops.proofs.Laws.Fold.{fold-again}
use Rattle.loops.proofs.Laws.Stores.{store-taken, store-left}
use Rattle.group.proofs.Laws.Fresh.{begun, fresh-inside, fresh-outside}
use Rattle.group.proofs.Group.fresh.Invariants.{step}
use Rattle.group.proofs.Group.fresh.Goals as goal
use Rattle.group.proofs.Group.fresh.Goals.{then-holds-2, else-holds-2}

pub loop-q-init : goal.loop-q-init
unfolding fold_below
loop-q-init c = (omega arith, refl)

pub loop-q-preserved : goal.loop-q-preserved
loop-q-preserved c =
    let h = c.before.before.before in
    let core = h.args.self.core in
    let in-core = sym c.holds-in-loop-q.ensures in (
      omega arith,
      fold-again (step core) _ h.loop-q.q h.loop-q.invariant.1
          (elim c.if-holds-2.branch [
            | then-holds-2 w ↦ w.words-is ∙ store-taken 4 (has core) (λ q. core) h.loop-q.q h.loop-q.words (in-core ∙ w.if-holds-2.true)
            | else-holds-2 w ↦ w.words-is ∙ store-left 4 (has core) (λ q. core) h.loop-q.q h.loop-q.words (in-core ∙ w.if-holds-2.false)
          ]),
    )

pub returns-after-loop-q : goal.returns-after-loop-q
unfolding group_word
returns-after-loop-q c =
    let h = c.before in
    let a = h.before.before.before in
    h.loop-q.invariant.1 ∙ ap (λ (n : ℕ). fold_below n (step a.args.self.core) (begun (group_word a.args.self.core a.args.self.least a.args.own) a.args.self.core)) (omega arith) ∙ fresh-inside a.args.self.core a.args.self.least a.args.own (sym h.holds.ensures ∙ h.if-holds.true)

pub returns-else-holds : goal.returns-else-holds
unfolding group_word
returns-else-holds c = let a = c.before.before in fresh-outside a.args.self.core a.args.self.least a.args.own (sym c.holds.ensures ∙ c.if-holds.false)
