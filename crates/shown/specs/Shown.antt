-- What `frames` prints. Document 01: "`A view sender`, `S view sender number primary-heads primary-number places` (heads in four hexadecimal digits, the rest
-- decimal, primary 0000 and -1 for none, places their count), or `R 3`".
use Rattle.std.specs.Prelude.{cond, List, [], ◌∷◌, ◌++◌, ℕ, eqb}
use Rattle.group.specs.Words.{heads, num}
use Rattle.state.specs.declared.State.{State}
use Rattle.text.specs.Text.{decimal}
use Rattle.lines.specs.Read.{Line, StateLine, AttemptLine, Broken, Read}
use Rattle.lines.specs.Hex.{hex_of}
use Rattle.lines.specs.Reading.{read_line}
use Rattle.lines.specs.Writing.{bytes2}
use Rattle.lines.specs.Walk.{lines_of}

-- a space, and a number in decimal
unfoldable pub field : ℕ → List ℕ
field n = (32 ∷ []) ++ decimal n

-- "heads in four hexadecimal digits"
unfoldable pub heads_text : ℕ → List ℕ
heads_text w = (32 ∷ []) ++ hex_of (bytes2 (heads w))

-- "primary 0000 and -1 for none"
unfoldable pub number_text : ℕ → List ℕ
number_text w = cond (eqb w 0) (32 ∷ 45 ∷ 49 ∷ []) (field (num w))

unfoldable pub session_text : ℕ → List ℕ
session_text w = heads_text w ++ number_text w

-- the letter, "view sender"
unfoldable pub head_text : ℕ → ℕ → ℕ → List ℕ
head_text letter view sender = (letter ∷ []) ++ field view ++ field sender

-- "number primary-heads primary-number places"
unfoldable pub values_text : ℕ → ℕ → ℕ → List ℕ
values_text number primary count = field number ++ session_text primary ++ field count

-- A is 65, S is 83, the newline 10
unfoldable pub attempt_text : ℕ → ℕ → List ℕ
attempt_text view sender = head_text 65 view sender ++ (10 ∷ [])

unfoldable pub state_text : ℕ → ℕ → ℕ → ℕ → ℕ → List ℕ
state_text view sender number primary count = head_text 83 view sender ++ values_text number primary count ++ (10 ∷ [])

-- "`R 3`"
unfoldable pub refused_text : List ℕ
refused_text = 82 ∷ 32 ∷ 51 ∷ 10 ∷ []

abbrev pub shown_line : Line → State → List ℕ
shown_line (StateLine v p) st = state_text v p st.number st.primary st.count
shown_line (AttemptLine v p) st = attempt_text v p
shown_line (Broken k) st = refused_text

abbrev pub shown : Read → List ℕ
shown r = shown_line r.line r.state

-- room enough for what a line prints
abbrev pub room : Line → ℕ
room (StateLine v p) = 112
room (AttemptLine v p) = 44
room (Broken k) = 4

-- "prints one for each, no header"
unfoldable pub printed : List (List ℕ) → List ℕ
printed [] = []
printed (l ∷ ls) = shown (read_line l) ++ printed ls

-- what the program prints for its whole input
unfoldable pub frames : List ℕ → List ℕ
frames s = printed (lines_of s)
