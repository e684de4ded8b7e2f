-- Cases 1 to 10 of document 01, "Examples of both sides", as one table. W0 is 001f.
use Rattle.std.specs.Prelude.{List, [], ◌∷◌, ℕ}
use Rattle.group.specs.Answers.{Verdict, holds, fails}
use Rattle.group.specs.Quorum.{quorum_test}

pub record Case : Type 0 where
  pub least : ℕ
  pub s : ℕ
  pub t : ℕ
  pub answer : Verdict

abbrev case : ℕ → ℕ → ℕ → Verdict → Case
case q s t a = record { least = q; s = s; t = t; answer = a }

unfoldable pub cases : List Case
cases =
    case 1 0x001f 0x0007 holds
    ∷ case 1 0x001f 0x0003 fails
    ∷ case 1 0x000f 0x000c holds
    ∷ case 1 0x000f 0x0003 fails
    ∷ case 1 0 0x001f fails
    ∷ case 2 0x0018 0x000f holds
    ∷ case 1 0x0018 0x000f fails
    ∷ case 2 0x0001 0x0001 fails
    ∷ case 1 0x0001 0x0001 holds
    ∷ case 1 0x0060 0x001f holds
    ∷ []

-- what the quorum test answers in a case
unfoldable pub answered : Case → Verdict
answered c = quorum_test 0x001f c.least c.s c.t
