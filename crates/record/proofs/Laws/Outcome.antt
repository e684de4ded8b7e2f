-- A contract over `outcome` allows one answer and one record: the words of document 01 tell the answers apart.
use mathlib.Core.Path.{◌≡◌, sym, ap, ◌∙◌}
use mathlib.Core.List.{List}
use Prim.Native.Nat.{ℕ}
use Rattle.std.specs.Prelude.{Result}
use Rattle.group.specs.declared.answers.Answer.{Answer}
use Rattle.group.specs.declared.answers.Refusal.{Refusal}
use Rattle.group.proofs.Laws.Answers.{said-one}
use Rattle.record.specs.Outcome.{Outcome, outcome}

pub one-outcome : (o : Outcome) (a b : List ℕ) (x y : Result Answer Refusal) → outcome a x ≡ o → outcome b y ≡ o → (a ≡ b) × (x ≡ y)
one-outcome o a b x y e f = (ap (λ (u : Outcome). u.rec) (e ∙ sym f), said-one x y (ap (λ (u : Outcome). u.answer) (e ∙ sym f)))
