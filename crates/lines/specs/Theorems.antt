-- What is proved of reader and writers together: lines are written and read in one form only, and each comes back the same. proofs/Laws/Theorems has the proofs.
use Rattle.std.specs.Prelude.{◌≡◌, Bool, true, false, List, [], ◌∷◌, ◌++◌, ◌⊎◌, ℕ, ◌≤◌, ◌<◌, length}
use Rattle.state.specs.declared.State.{State}
use Rattle.state.specs.Values.{no_state, Tidy}
use Rattle.state.specs.Rules.{keeps_rules}
use Rattle.lines.specs.Read.{Line, Read, StateLine, AttemptLine, Broken}
use Rattle.lines.specs.Hex.{rest_of}
use Rattle.lines.specs.Reading.{breaks, read_line, read_whole}
use Rattle.lines.specs.Writing.{attempt_line, state_line}
use Rattle.lines.specs.Walk.{lines_of, join, first_of, rest_after}

-- ---- what a line can carry

-- view v and sender p: "views 1 to 4,294,967,295", "16 heads (0 to 15)"
pub record HeadKept (v p : ℕ) : Type 0 where
  pub some : 0 < v
  pub view : v < 4294967296
  pub sender : p < 16

-- a state line's values
pub record StateKept (v p : ℕ) (st : State) : Type 0 where
  pub head : HeadKept v p
  pub tidy : Tidy st
  pub rules : keeps_rules st p ≡ true

abbrev pub KeptLine : Line → State → Type 0
KeptLine (StateLine v p) st = StateKept v p st
KeptLine (AttemptLine v p) st = HeadKept v p × (st ≡ no_state)
KeptLine (Broken k) st = ⊥

-- values that keep the rules
abbrev pub Keeps : Read → Type 0
Keeps r = KeptLine r.line r.state

-- the line of some values
abbrev pub line_with : Line → State → List ℕ
line_with (StateLine v p) st = state_line v p st
line_with (AttemptLine v p) st = attempt_line v p
line_with (Broken k) st = []

abbrev pub written : Read → List ℕ
written r = line_with r.line r.state

abbrev was_line : Line → Bool
was_line (StateLine v p) = true
was_line (AttemptLine v p) = true
was_line (Broken k) = false

-- a line was read
abbrev pub WasRead : Read → Type 0
WasRead r = was_line r.line ≡ true

-- ---- the theorems

-- Lent bytes whose first line reads are, byte for byte, the line written from what was read, and the rest.
abbrev pub OneForm : Type 0
OneForm = (s : List ℕ) → WasRead (read_line s) → s ≡ written (read_line s) ++ rest_of s

abbrev pub OneFormWhole : Type 0
OneFormWhole = (s : List ℕ) → WasRead (read_whole s) → s ≡ written (read_whole s)

-- What reads keeps the rules.
abbrev pub ReadKeeps : Type 0
ReadKeeps = (s : List ℕ) → WasRead (read_line s) → Keeps (read_line s)

abbrev pub WholeKeeps : Type 0
WholeKeeps = (s : List ℕ) → WasRead (read_whole s) → Keeps (read_whole s)

-- What keeps the rules, written, reads back the same, and the rest is what stands after the line.
abbrev pub ReadsBack : Type 0
ReadsBack = (r : Read) (x : List ℕ) → Keeps r → (read_line (written r ++ x) ≡ r) × (rest_of (written r ++ x) ≡ x)

-- With nothing left over it reads back whole.
abbrev pub WholeBack : Type 0
WholeBack = (r : Read) → Keeps r → read_whole (written r) ≡ r

-- Two different values never have one line, nor two different lines one value.
abbrev pub OneLine : Type 0
OneLine = (q r : Read) → Keeps q → Keeps r → written q ≡ written r → q ≡ r

abbrev pub OneValue : Type 0
OneValue = (s t : List ℕ) → WasRead (read_whole s) → read_whole s ≡ read_whole t → s ≡ t

-- Every list of bytes gets one of the outcomes, a line that reads or the first broken rule's number, and not both.
abbrev pub Total : Type 0
Total = (s : List ℕ) → Keeps (read_line s) ⊎ ((k : ℕ) × (1 ≤ k) × (k ≤ 7) × (read_line s ≡ breaks k))

abbrev pub NotBoth : Type 0
NotBoth = (s : List ℕ) (k : ℕ) → read_line s ≡ breaks k → (r : Read) (x : List ℕ) → Keeps r → s ≡ written r ++ x → ⊥

-- Walking a text with reader and rest: each step takes the first of its lines, judges that line alone and leaves the others; the lines together are the text;
-- and after as many steps as there are lines the rest is the empty end.
pub record Walked (s : List ℕ) : Type 0 where
  pub step : 0 < length s → lines_of s ≡ first_of s ∷ lines_of (rest_of s)
  pub alone : read_line s ≡ read_line (first_of s)
  pub joined : join (lines_of s) ≡ s
  pub ended : rest_after (length (lines_of s)) s ≡ []

abbrev pub Walks : Type 0
Walks = (s : List ℕ) → Walked s
