-- The words of document 01 tell the answers apart, so a contract over `verdict` or `said` allows one answer: each has an inverse.
use mathlib.Core.Path.{◌≡◌, refl, sym, ap, ◌∙◌}
use mathlib.Core.Bool.{Bool, true, false}
use mathlib.Core.List.{List, [], ◌∷◌}
use Prim.Native.Nat.{ℕ}
use lib.ListN.{get_or}
use Rattle.std.specs.Prelude.{Result, Ok, Err}
use Rattle.group.specs.declared.answers.Refusal.{Refusal}
use Rattle.group.specs.declared.answers.Refusal.TheVariants.{Group, Record, Line, Stranger, OldView, NoSession, OtherView, Heard, Missing, Decided, Undecided, Closed, Short}
use Rattle.group.specs.declared.answers.Answer.{Answer}
use Rattle.group.specs.declared.answers.Answer.TheVariants as answer
use Rattle.group.specs.Answers.{refusal_number, Verdict, holds, fails, refuses, verdict, Said, said, started, recovered, entered, heard, attempted, no-quorum, numbers-run-out, no_place, formed, cut, written, refused}
use Rattle.group.specs.Quorum.{quorum_test}

abbrev refusals : List Refusal
refusals = Group ∷ Record ∷ Line ∷ Stranger ∷ OldView ∷ NoSession ∷ OtherView ∷ Heard ∷ Missing ∷ Decided ∷ Undecided ∷ Closed ∷ Short ∷ []

abbrev back : ℕ → Refusal
back n = get_or (Short ∷ refusals) n Short

back-number : (r : Refusal) → back (refusal_number r) ≡ r
back-number Group = refl
back-number Record = refl
back-number Line = refl
back-number Stranger = refl
back-number OldView = refl
back-number NoSession = refl
back-number OtherView = refl
back-number Heard = refl
back-number Missing = refl
back-number Decided = refl
back-number Undecided = refl
back-number Closed = refl
back-number Short = refl

abbrev unverdict : Verdict → Result Bool Refusal
unverdict holds = Ok true
unverdict fails = Ok false
unverdict (refuses n) = Err (back n)

unverdict-verdict : (q : Result Bool Refusal) → unverdict (verdict q) ≡ q
unverdict-verdict (Ok true) = refl
unverdict-verdict (Ok false) = refl
unverdict-verdict (Err r) = ap {B = Result Bool Refusal} Err (back-number r)

pub verdict-one : (a b : Result Bool Refusal) → verdict a ≡ verdict b → a ≡ b
verdict-one a b e = sym (unverdict-verdict a) ∙ ap unverdict e ∙ unverdict-verdict b

-- two answers that the quorum test's contract allows are equal
pub quorum-determined : (core least s t : ℕ) (a b : Result Bool Refusal) → verdict a ≡ quorum_test core least s t → verdict b ≡ quorum_test core least s t → a ≡ b
quorum-determined core least s t a b e f = verdict-one a b (e ∙ sym f)

abbrev unsaid : Said → Result Answer Refusal
unsaid started = Ok answer.Started
unsaid recovered = Ok answer.Recovered
unsaid entered = Ok answer.Entered
unsaid heard = Ok answer.Heard
unsaid attempted = Ok answer.Attempted
unsaid no-quorum = Ok answer.NoQuorum
unsaid numbers-run-out = Ok answer.NumbersRunOut
unsaid no_place = Ok answer.NoPlace
unsaid formed = Ok answer.Formed
unsaid cut = Ok answer.Cut
unsaid (written n) = Ok (answer.Written n)
unsaid (refused n) = Err (back n)

unsaid-said : (a : Result Answer Refusal) → unsaid (said a) ≡ a
unsaid-said (Ok answer.Started) = refl
unsaid-said (Ok answer.Recovered) = refl
unsaid-said (Ok answer.Entered) = refl
unsaid-said (Ok answer.Heard) = refl
unsaid-said (Ok answer.Attempted) = refl
unsaid-said (Ok answer.NoQuorum) = refl
unsaid-said (Ok answer.NumbersRunOut) = refl
unsaid-said (Ok answer.NoPlace) = refl
unsaid-said (Ok answer.Formed) = refl
unsaid-said (Ok answer.Cut) = refl
unsaid-said (Ok (answer.Written n)) = refl
unsaid-said (Err r) = ap {B = Result Answer Refusal} Err (back-number r)

-- a contract over `said` determines the answer
pub said-one : (a b : Result Answer Refusal) → said a ≡ said b → a ≡ b
said-one a b e = sym (unsaid-said a) ∙ ap unsaid e ∙ unsaid-said b
