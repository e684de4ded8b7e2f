-- Values and tests as the code comes to them, branch by branch, from what its parts computed.
use mathlib.Core.Path.{◌≡◌, ap, ◌∙◌}
use mathlib.Core.Bool.{Bool, not, cond, ◌&&◌}
use mathlib.Core.List.{List, []}
use Prim.Native.Nat.{ℕ}
use lib.Dec.{eqb, ltb}
use lib.ListN.{get_or}
use Rattle.loops.specs.Below.{table}
use Rattle.loops.proofs.Laws.Fold.{fold-cong}
use Rattle.loops.proofs.Laws.Lists.{get_d-table}
use Rattle.group.specs.Heads.{has}
use Rattle.group.specs.Words.{rank, highest_of}
use Rattle.store.specs.declared.Pen.{Pen}
use Rattle.store.specs.Desk.{Desk, desk, run}
use Rattle.store.specs.Program.{step_by}
use Rattle.record.specs.Layout.{own, number, primary}
use Rattle.recovery.specs.Changes.{clear_change}
use Rattle.state.specs.declared.Held.{Held}
use Rattle.plan.specs.Members.{held_of, other, formed_with}
use Rattle.plan.specs.Adoption.{offered}
use Rattle.plan.specs.Clearing.{lists, behind, denies, to_clear, clear_step}
use Rattle.plan.specs.Attempt.{number_of, primary_of}

-- ---- members' values

module _ (m : ℕ) (held : Held) (r : List ℕ) (q : ℕ) {p : ℕ} (e : p ≡ own r) where
  pub offered-by : cond (has m q && not (eqb q p)) (get_or (held_of held q).formed p 0) 0 ≡ offered m held r q
  unfolding offered other formed_with
  offered-by = rw e

  pub number_by : {x y : ℕ} → x ≡ number r → y ≡ (held_of held q).number → cond (has m q) (cond (eqb q p) x y) 0 ≡ number_of m held r q
  unfolding number_of
  number_by a b = rw (e, a, b)

  pub primary-by : {x : ℕ} → x ≡ primary r → cond (has m q) (cond (eqb q p) x (held_of held q).primary) 0 ≡ primary_of m held r q
  unfolding primary_of
  primary-by a = rw (e, a)

  pub denies-by : (w : ℕ)
      → (has w q && (has m q && not (eqb q p)) && not (lists (held_of held q) w) && behind (held_of held q).primary w) ≡ denies m held r w q
  unfolding denies other
  denies-by w = rw e

-- the highest of a table's sessions
pub highest-table : (f : ℕ → ℕ) {words : List ℕ} → words ≡ table 16 f → highest_of 16 (λ i. get_or words i 0) ≡ highest_of 16 f
unfolding highest_of
highest-table f {words} e =
    fold-cong 16 _ _ 0
    (λ i w h. ap (λ (v : ℕ). cond (ltb (rank w) (rank v)) v w) (ap (λ (l : List ℕ). get_or l i 0) e ∙ get_d-table 16 f i 0 h))

-- ---- a place to clear

pub clear_step-one : (m : ℕ) (held : Held) (r : List ℕ) (i : ℕ) (pen : Pen) {b : Bool} {d : Desk} → b ≡ to_clear m held r i
    → d ≡ run (cond b (clear_change i) []) (desk r pen) → d ≡ step_by (clear_step m held i) (desk r pen)
unfolding step_by clear_step
clear_step-one m held r i pen e f = f ∙ rw e
