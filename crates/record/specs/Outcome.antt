-- What a call that takes no session leaves: its answer in document 01's words, and the record.
use Rattle.std.specs.Prelude.{List, ℕ, Result}
use Rattle.group.specs.declared.answers.Answer.{Answer}
use Rattle.group.specs.declared.answers.Refusal.{Refusal}
use Rattle.group.specs.Answers.{Said, said}

pub record Outcome : Type 0 where
  pub answer : Said
  pub rec : List ℕ

abbrev pub outcome : List ℕ → Result Answer Refusal → Outcome
outcome r a = record { answer = said a; rec = r }
