-- Document 01's "Examples of both sides", as its last section asks: "Cases 1 to 12 are one table of the definitions and one theorem over it". Cases 1 to 10 are quorum
-- tests, the table of crate group; 11 and 12 are calls of heads from fresh records. W0 is 001f; Q is 1 in 11 and 12.
use Rattle.std.specs.Prelude.{◌≡◌, List, [], ◌∷◌, ◌++◌, map, ℕ, suc, ◌+◌, take, replicate}
use Rattle.group.specs.Answers.{Said, Verdict, started, attempted, no-quorum, formed, cut}
use Rattle.group.specs.Fresh.{fresh_record}
use Rattle.group.specs.Cases.{Case, cases, answered}
use Rattle.store.specs.Changes.{Change}
use Rattle.record.specs.Layout.{primary, place_at}
use Rattle.recovery.specs.Recover.{mended}
use Rattle.recovery.specs.Cases.{six_stores, formed as formed_words}
use Rattle.lines.specs.Hex.{line_end}
use Rattle.head.specs.Session.{no_session}
use Rattle.head.specs.Calls.{forms_changes}
use Rattle.calls.specs.Statements.{Call, enter, hear-state, hear-attempt, decide, form, write-state, write-attempt, Left, leaves}

-- what can be seen of a case: a quorum test's verdict; a head after a call, by the answer, last primary and the first place; the changes of a call; an answer; the
-- words of a record
pub data Seen : Type 0 where
  verdict : Verdict → Seen
  head : Said → ℕ → ℕ → Seen
  changes : List Change → Seen
  answer : Said → Seen
  words : List ℕ → Seen

-- a row of the table: the case, what the definitions give, what document 01 says
pub record Row : Type 0 where
  pub case : ℕ
  pub gives : Seen
  pub says : Seen

abbrev row : ℕ → Seen → Seen → Row
row n g s = record { case = n; gives = g; says = s }

-- ---- 1 to 10

-- the cases of crate group, from case n on
unfoldable pub quorum_rows : ℕ → List Case → List Row
quorum_rows n [] = []
quorum_rows n (c ∷ cs) = row n (verdict (answered c)) (verdict c.answer) ∷ quorum_rows (suc n) cs

-- ---- 11 and 12: the heads and their calls

-- "all heads fresh"
abbrev fresh : ℕ → Left
fresh h = record { answer = started; words = fresh_record 0x1f 1 h; session = no_session; out = [] }

-- the next call of a head, on what its last one left
abbrev then : Call → Left → Left
then c l = leaves c l.session l.words

abbrev enters : ℕ → ℕ → Left → Left
enters view m l = then (enter view m 1) l

-- the line that a call wrote, of an output of zeros
abbrev line_in : List ℕ → List ℕ
line_in out = take (line_end out + 1) out

-- head l hears the state, the attempt, of head a
abbrev hears : Left → Left → Left
hears a l = then (hear-state (line_in (then (write-state (replicate 419 0)) a).out)) l

abbrev hears_attempt : Left → Left → Left
hears_attempt a l = then (hear-attempt (line_in (then (write-attempt (replicate 13 0)) a).out)) l

-- the stores that a call may make: more than it needs
abbrev plenty : ℕ
plenty = 99

abbrev decides : Left → Left
decides l = then (decide plenty) l

-- "View 1 is 0007": heads 0, 1 and 2 enter, hear each other and attempt
abbrev first : ℕ → Left
first h = enters 1 0x7 (fresh h)

unfoldable pub decided0 : Left
decided0 = decides (hears (first 2) (hears (first 1) (first 0)))

unfoldable pub decided1 : Left
decided1 = decides (hears (first 2) (hears (first 0) (first 1)))

unfoldable pub decided2 : Left
decided2 = decides (hears (first 1) (hears (first 0) (first 2)))

-- "heads 0 and 1 form (0007, 1), head 2 has attempted only"
unfoldable pub formed0 : Left
formed0 = then (form plenty) (hears_attempt decided2 (hears_attempt decided1 decided0))

unfoldable pub formed1 : Left
formed1 = then (form plenty) (hears_attempt decided2 (hears_attempt decided0 decided1))

-- "In view 2, 0003 attempts (0003, 2)."
abbrev second : Left → Left
second l = enters 2 0x3 l

-- "In view 3, 001c: no quorum."
abbrev third : Left → Left
third l = enters 3 0x1c l

-- "Had head 2 formed in view 1": it has heard both attempts
unfoldable pub ready2 : Left
ready2 = hears_attempt decided1 (hears_attempt decided0 decided2)

abbrev seen : Left → Seen
seen l = head l.answer (primary l.words) (place_at l.words 0)

-- ---- the table

unfoldable pub case_table : List Row
case_table =
    quorum_rows 1 cases
    -- "View 1 is 0007": heads 0, 1 and 2 attempt (0007, 1)
    ++ (row 11 (seen decided0) (head attempted 0x1f 0x10007)
    ∷ row 11 (seen decided1) (head attempted 0x1f 0x10007)
    ∷ row 11 (seen decided2) (head attempted 0x1f 0x10007)
    -- "heads 0 and 1 form (0007, 1), head 2 has attempted only"
    ∷ row 11 (seen formed0) (head formed 0x10007 0)
    ∷ row 11 (seen formed1) (head formed 0x10007 0)
    -- "In view 2, 0003 attempts (0003, 2)."
    ∷ row 11 (seen (decides (hears (second formed1) (second formed0)))) (head attempted 0x10007 0x20003)
    ∷ row 11 (seen (decides (hears (second formed0) (second formed1)))) (head attempted 0x10007 0x20003)
    -- "In view 3, 001c: no quorum."
    ∷ row 11 (seen (decides (hears (third (fresh 4)) (hears (third (fresh 3)) (third decided2))))) (head no-quorum 0x1f 0x10007)
    ∷ row 11 (seen (decides (hears (third (fresh 4)) (hears (third decided2) (third (fresh 3)))))) (head no-quorum 0x1f 0)
    ∷ row 11 (seen (decides (hears (third (fresh 3)) (hears (third decided2) (third (fresh 4)))))) (head no-quorum 0x1f 0)
    -- "its words 3, 4, 5, 6 become 10007 hex, words 20 and 36 are stored as 0"
    ∷ row 12 (changes (forms_changes ready2.session ready2.words)) (changes (six_stores ∷ []))
    ∷ row 12 (answer (then (form 6) ready2).answer) (answer formed)
    ∷ row 12 (words (then (form 6) ready2).words) (words formed_words)
    -- "Cut after the first of the six stores, recovery gives the same record."
    ∷ row 12 (answer (then (form 1) ready2).answer) (answer cut)
    ∷ row 12 (words (mended (then (form 1) ready2).words)) (words formed_words)
    ∷ [])

abbrev pub given : List Row → List Seen
given rows = map (λ (x : Row). x.gives) rows

abbrev pub expected : List Row → List Seen
expected rows = map (λ (x : Row). x.says) rows

abbrev pub TwelveCases : Type 0
TwelveCases = given case_table ≡ expected case_table
