-- What a head of the bench keeps for later events: "its last four sent lines", and the cut that waits for its next call.
use Rattle.std.specs.Prelude.{Bool, cond, ◌&&◌, List, [], ◌∷◌, ℕ, Option, Some, None, ltb, leb, take, replicate, get_or}
use Rattle.group.specs.Answers.{Said, started, recovered, entered, heard, attempted, no-quorum, numbers-run-out, no_place, formed, cut, written, refused}
use Rattle.keeping.specs.declared.Kept.{Kept}

-- an output of 419 zeros, room for every line
unfoldable pub blank : List ℕ
blank = replicate 419 0

unfoldable pub no_line : Kept
no_line = record { len = 0; bytes = blank }

-- "17 cut (head 1, k 2: that head's next call of the four that store .. may make k stores": without one, as many as the number's width holds
unfoldable pub stores_for : Option ℕ → ℕ
stores_for (Some stores) = stores
stores_for None = 18446744073709551615

-- how many characters a call wrote
abbrev pub chars : Said → ℕ
chars (written n) = n
chars started = 0
chars recovered = 0
chars entered = 0
chars heard = 0
chars attempted = 0
chars no-quorum = 0
chars numbers-run-out = 0
chars no_place = 0
chars formed = 0
chars cut = 0
chars (refused n) = 0

-- "its last four sent lines", "0 the newest"
unfoldable pub pushed : Kept → List Kept → List Kept
pushed k sent = k ∷ take 3 sent

-- the line that a delivery names; of no characters where there is none
unfoldable pub kept_at : List Kept → ℕ → Kept
kept_at sent which = cond (leb which 3) (get_or sent which (record { len = 0; bytes = [] })) no_line

-- "14 .. for a line not kept"
unfoldable pub is_line : ℕ → Bool
is_line len = ltb 0 len && leb len 419

-- its characters
abbrev pub line_of : Kept → List ℕ
line_of k = take k.len k.bytes
