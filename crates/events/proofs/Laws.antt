-- Whether start takes a group, by its answer; and what holds of a line's heads whatever the line is.
use mathlib.Core.Bool.{Bool, true, false, cond}
use mathlib.Core.List.{List}
use mathlib.Core.Path.{◌≡◌, ap, ◌∙◌}
use Prim.Native.Nat.{ℕ, ◌<◌}
use native.Mathlib.Omega.{arith}
use borrow.Author.Tests.{leb-true}
use lib.Dec.{eqb, leb}
use lib.ListN.{replicate}
use Rattle.std.specs.Prelude.{Option, Some, None, Result, Ok, Err}
use Rattle.std.specs.Result.{is_ok}
use Rattle.loops.proofs.Laws.Truth.{cond-elim}
use Rattle.group.specs.declared.answers.Answer.{Answer}
use Rattle.group.specs.declared.answers.Answer.TheVariants.{Started}
use Rattle.group.specs.declared.answers.Refusal.{Refusal}
use Rattle.group.specs.declared.answers.Refusal.TheVariants.{Group}
use Rattle.group.specs.Answers.{said, started, refused}
use Rattle.group.proofs.Laws.Answers.{said-one}
use Rattle.record.specs.Outcome.{Outcome, outcome}
use Rattle.record.specs.Start.{start_spec, can_start, taken_least}
use Rattle.events.specs.declared.Delivery.{Delivery}
use Rattle.events.specs.Events.{byte_at, delivery, one_head, starts}

-- ---- the group

-- what start answers, by whether it takes the group
started-is : (core q : ℕ) → (start_spec (replicate 52 0) 0 core q).answer ≡ cond (starts core q) started (refused 1)
unfolding start_spec starts
started-is core q =
    cond-elim (λ (o : Outcome). o.answer ≡ cond (can_start 0 core (taken_least q)) started (refused 1)) (can_start 0 core (taken_least q)) _ _ (λ e. rw e) (λ e. rw e)

ok-where : (b : Bool) (r : Result Answer Refusal) → said r ≡ cond b started (refused 1) → is_ok r ≡ b
ok-where true r e = ap {A = Result Answer Refusal} is_ok (said-one r (Ok Started) e)
ok-where false r e = ap {A = Result Answer Refusal} is_ok (said-one r (Err Group) e)

pub ok-starts : (core q : ℕ) (t : List ℕ) (r : Result Answer Refusal) → outcome t r ≡ start_spec (replicate 52 0) 0 core q → is_ok r ≡ starts core q
ok-starts core q t r e = ok-where (starts core q) r (ap (λ (o : Outcome). o.answer) e ∙ started-is core q)

-- ---- the heads that a line names

module _ (n : ℕ) (f : List ℕ) where
  pub of-one-head : (P : Option ℕ → Type 0) → P None → ((h : ℕ) → h < 16 → P (Some h)) → P (one_head n f)
  of-one-head P none some =
      cond-elim P (eqb n 4) _ _ (λ t. cond-elim P (leb (byte_at 1 f) 15) _ _ (λ u. some (byte_at 1 f) (omega (arith, leb-true (byte_at 1 f) 15 u))) (λ u. none)) (λ t. none)

  pub of-delivery : (P : Option Delivery → Type 0) → P None → ((d : Delivery) → d.to < 16 → d.from < 16 → P (Some d)) → P (delivery n f)
  of-delivery P none some =
      cond-elim P (eqb n 8) _ _
      (λ t. cond-elim P (leb (byte_at 1 f) 15) _ _
      (λ u. cond-elim P (leb (byte_at 2 f) 15) _ _ (λ v. some _ (omega (arith, leb-true (byte_at 1 f) 15 u)) (omega (arith, leb-true (byte_at 2 f) 15 v))) (λ v. none)) (λ u. none))
      (λ t. none)
