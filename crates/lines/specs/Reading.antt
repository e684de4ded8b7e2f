-- What the reader answers (document 01, "Lines"): "Rules, in order", over the characters of a line and the frame that they spell.
use Rattle.std.specs.Prelude.{Bool, cond, not, ◌&&◌, ◌||◌, List, ℕ, ◌+◌, ◌*◌, length, get_or, drop, ltb, leb, eqb, Result, Ok, Err}
use Rattle.loops.specs.Below.{every}
use Rattle.state.specs.declared.State.{State}
use Rattle.state.specs.Values.{no_state, padded}
use Rattle.state.specs.declared.rules.Rule.{Rule}
use Rattle.state.specs.Rules.{broken, number_of_rule}
use Rattle.lines.specs.declared.Frame.{Frame}
use Rattle.lines.specs.declared.Frame.TheVariants as frame
use Rattle.lines.specs.Read.{Read, StateLine, AttemptLine, Broken}
use Rattle.lines.specs.Hex.{is_digit, unhex, line_end, line_of}
use Rattle.lines.specs.Frame.{four, six, words}

-- ---- the fields of a frame

-- "The first byte says what the line is": "01 state: view 4, sender 1, session number 4, last primary 6, last formed 16 x 6, count 1, count x 6 places",
-- "02 attempt: view 4, sender 1"
unfoldable pub kind_of : List ℕ → ℕ
kind_of f = get_or f 0 0

unfoldable pub view_of : List ℕ → ℕ
view_of f = four (drop 1 f)

unfoldable pub sender_of : List ℕ → ℕ
sender_of f = get_or f 5 0

unfoldable pub count_of : List ℕ → ℕ
count_of f = get_or f 112 0

unfoldable pub state_of : List ℕ → State
state_of f =
    record {
      number = four (drop 6 f);
      primary = six (drop 10 f);
      formed = padded (words 16 (drop 16 f));
      count = count_of f;
      places = padded (words (count_of f) (drop 113 f));
    }

-- ---- the rules; l is the line without its newline, n the number of its characters, f its frame

-- "(1) digits and newline"
unfoldable pub rule1 : List ℕ → Bool
rule1 l = every is_digit l

-- "113 bytes and 6 a place: 227 to 419 characters with newline", "count at most 16"
unfoldable pub state_fits : ℕ → List ℕ → Bool
state_fits n f = leb (count_of f) 16 && eqb n (226 + 12 * count_of f)

-- "(2) kind and length, count at most 16"; an attempt is "13 characters" with its newline
unfoldable pub rule2 : ℕ → List ℕ → Bool
rule2 n f = (eqb (kind_of f) 1 && state_fits n f) || (eqb (kind_of f) 2 && eqb n 12)

-- "(3) view not 0, sender at most 15"
unfoldable pub rule3 : List ℕ → Bool
rule3 f = not (eqb (view_of f) 0) && leb (sender_of f) 15

-- rules 4 to 7 are a state's: the first of them that is broken, 0 for none
unfoldable pub later_broken : List ℕ → ℕ
later_broken f = cond (eqb (kind_of f) 1) (broken (state_of f) (sender_of f)) 0

-- the first rule that is broken, 0 for none
unfoldable pub first_broken : List ℕ → ℕ
first_broken l =
    cond (rule1 l)
    (cond (rule2 (length l) (unhex l))
    (cond (rule3 (unhex l)) (later_broken (unhex l)) 3)
    2)
    1

-- ---- the answers

unfoldable pub breaks : ℕ → Read
breaks k = record { line = Broken k; state = no_state }

-- what an answer of the reader says
abbrev pub read_of : Result Frame Rule → Read
read_of (Ok (frame.State view sender st)) = record { line = StateLine view sender; state = st }
read_of (Ok (frame.Attempt view sender)) = record { line = AttemptLine view sender; state = no_state }
read_of (Err rule) = breaks (number_of_rule rule)

-- what a frame that keeps the rules carries
unfoldable pub carried : List ℕ → Read
carried f =
    cond (eqb (kind_of f) 1)
    (record { line = StateLine (view_of f) (sender_of f); state = state_of f })
    (record { line = AttemptLine (view_of f) (sender_of f); state = no_state })

unfoldable pub answer : ℕ → List ℕ → Read
answer k f = cond (eqb k 0) (carried f) (breaks k)

unfoldable pub judged : List ℕ → Read
judged l = answer (first_broken l) (unhex l)

-- "The reader takes lent bytes, judges the first line"; without a newline it breaks rule 1
unfoldable pub read_line : List ℕ → Read
read_line s = cond (ltb (line_end s) (length s)) (judged (line_of s)) (breaks 1)

-- "The bytes given are one line; anything after its newline breaks rule 1."
unfoldable pub read_whole : List ℕ → Read
read_whole s = cond (eqb (line_end s + 1) (length s)) (judged (line_of s)) (breaks 1)
