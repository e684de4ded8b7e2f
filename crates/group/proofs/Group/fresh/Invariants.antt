-- `group::Group::fresh` meets its contract. The loop over the heads is `fold_below` of its step, and `Laws.Fresh` says what that gives.
use mathlib.Core.Path.{◌≡◌}
use mathlib.Core.List.{List}
use Prim.Native.Nat.{ℕ, ◌-◌, ◌≤◌}
use Rattle.loops.specs.Below.{fold_below, store_when}
use Rattle.group.specs.Heads.{has}
use Rattle.group.proofs.Group.fresh.Given as goal

abbrev pub step : ℕ → ℕ → List ℕ → List ℕ
step core = store_when 4 (has core) (λ q. core)

abbrev pub invariant-loop-q : goal.invariant-loop-q
invariant-loop-q l = (l.q ≤ 16) × (l.words ≡ fold_below l.q (step l.core) l.initial.words)

abbrev pub decreases-loop-q : goal.decreases-loop-q
decreases-loop-q l = 16 - l.q
