-- What the writers write (document 01, "Lines").
use Rattle.std.specs.Prelude.{cond, ◌&&◌, List, [], ◌∷◌, ◌++◌, ℕ, ◌+◌, ◌*◌, ◌/◌, ◌%◌, length, take, drop, leb}
use Rattle.std.proofs.lemmas.List.Edits.{sets}
use Rattle.state.specs.declared.State.{State}
use Rattle.lines.specs.Hex.{hex_of}

-- "numbers high byte first": a number in two, four, six bytes
unfoldable pub bytes2 : ℕ → List ℕ
bytes2 v = v / 256 % 256 ∷ v % 256 ∷ []

unfoldable pub bytes4 : ℕ → List ℕ
bytes4 v = bytes2 (v / 65536) ++ bytes2 (v % 65536)

unfoldable pub bytes6 : ℕ → List ℕ
bytes6 v = bytes4 (v / 65536) ++ bytes2 (v % 65536)

-- "A session is 6 bytes: number, heads.": its word's
unfoldable pub flat : List ℕ → List ℕ
flat [] = []
flat (w ∷ ws) = bytes6 w ++ flat ws

-- "The first byte says what the line is", "view 4, sender 1"
unfoldable pub head_bytes : ℕ → ℕ → ℕ → List ℕ
head_bytes kind view sender = (kind ∷ []) ++ (bytes4 view ++ (sender ∷ []))

-- "session number 4, last primary 6, last formed 16 x 6"
unfoldable pub field_bytes : State → List ℕ
field_bytes st = bytes4 st.number ++ (bytes6 st.primary ++ flat st.formed)

-- "count 1, count x 6 places in rising number"
unfoldable pub place_bytes : State → List ℕ
place_bytes st = (st.count ∷ []) ++ flat (take st.count st.places)

-- "02 attempt: view 4, sender 1"
unfoldable pub attempt_frame : ℕ → ℕ → List ℕ
attempt_frame view sender = head_bytes 2 view sender

-- "01 state: view 4, sender 1, session number 4, last primary 6, last formed 16 x 6, count 1, count x 6 places in rising number"
unfoldable pub state_frame : ℕ → ℕ → State → List ℕ
state_frame view sender st = head_bytes 1 view sender ++ (field_bytes st ++ place_bytes st)

-- "Lower-case hexadecimal, one frame a line, newline (0a) last"
unfoldable pub line_for : List ℕ → List ℕ
line_for f = hex_of f ++ (10 ∷ [])

unfoldable pub attempt_line : ℕ → ℕ → List ℕ
attempt_line view sender = line_for (attempt_frame view sender)

unfoldable pub state_line : ℕ → ℕ → State → List ℕ
state_line view sender st = line_for (state_frame view sender st)

-- a text in which the characters of the bytes f stand from the place of byte `at` on
unfoldable pub spell : List ℕ → ℕ → List ℕ → List ℕ
spell d at f = sets d (at * 2) (hex_of f)

-- ---- the calls

-- how many characters were written, 0 for none, and the output after that
pub record Wrote : Type 0 where
  pub chars : ℕ
  pub out : List ℕ

abbrev pub wrote : ℕ → List ℕ → Wrote
wrote n out = record { chars = n; out = out }

-- "output under .. 13 for an attempt": it is kept. "Output past the written line keeps its bytes."
unfoldable pub write_attempt : ℕ → ℕ → List ℕ → Wrote
write_attempt view sender out = cond (leb 13 (length out)) (wrote 13 (attempt_line view sender ++ drop 13 out)) (wrote 0 out)

-- "output under 419 characters for a state": it is kept, as it is for a state with more than 16 places, which has no line
unfoldable pub write_state : ℕ → ℕ → State → List ℕ → Wrote
write_state view sender st out =
    cond (leb st.count 16 && leb 419 (length out))
    (wrote (227 + 12 * st.count) (state_line view sender st ++ drop (227 + 12 * st.count) out))
    (wrote 0 out)
