-- What each enum case stands for in document 01: "a definition gives this paper's number and values for each enum case".
use Rattle.std.specs.Prelude.{ℕ, Bool, cond, Result, Ok, Err}
use Rattle.group.specs.declared.answers.Refusal.{Refusal}
use Rattle.group.specs.declared.answers.Refusal.TheVariants as refusal
use Rattle.group.specs.declared.answers.Answer.{Answer}
use Rattle.group.specs.declared.answers.Answer.TheVariants as answer

-- "Numbers a refused call returns"
abbrev pub refusal_number : Refusal → ℕ
refusal_number refusal.Group = 1
refusal_number refusal.Record = 2
refusal_number refusal.Line = 3
refusal_number refusal.Stranger = 4
refusal_number refusal.OldView = 5
refusal_number refusal.NoSession = 6
refusal_number refusal.OtherView = 7
refusal_number refusal.Heard = 8
refusal_number refusal.Missing = 9
refusal_number refusal.Decided = 10
refusal_number refusal.Undecided = 11
refusal_number refusal.Closed = 12
refusal_number refusal.Short = 13

-- the quorum test: it holds, or not, or the call is refused with a number
pub data Verdict : Type 0 where
  holds fails : Verdict
  refuses : ℕ → Verdict

abbrev pub verdict : Result Bool Refusal → Verdict
verdict (Ok passed) = cond passed holds fails
verdict (Err r) = refuses (refusal_number r)

-- the other calls, in document 01's words
pub data Said : Type 0 where
  started recovered entered heard attempted no-quorum numbers-run-out no_place formed cut : Said
  written : ℕ → Said
  refused : ℕ → Said

abbrev pub said : Result Answer Refusal → Said
said (Ok answer.Started) = started
said (Ok answer.Recovered) = recovered
said (Ok answer.Entered) = entered
said (Ok answer.Heard) = heard
said (Ok answer.Attempted) = attempted
said (Ok answer.NoQuorum) = no-quorum
said (Ok answer.NumbersRunOut) = numbers-run-out
said (Ok answer.NoPlace) = no_place
said (Ok answer.Formed) = formed
said (Ok (answer.Written n)) = written n
said (Ok answer.Cut) = cut
said (Err r) = refused (refusal_number r)
