-- When a record is whole (document 01, "The record", the paragraph "A whole record also has"), sentence by sentence in its order.
use Rattle.std.specs.Prelude.{Bool, not, cond, ◌&&◌, ◌||◌, List, ℕ, ◌/◌, eqb, leb, ltb, length}
use Rattle.loops.specs.Below.{all_below}
use Rattle.group.specs.Heads.{has, less, only, within}
use Rattle.group.specs.Words.{heads, num, rank, session_word, primary_ok, formed_ok}
use Rattle.group.specs.Quorum.{enough, is_group}
use Rattle.record.specs.Layout.{settings, core, least, own, entered, number, primary, formed_for, place_at, marks_at}

-- "word 0 as start could make it": a group that start does not refuse, a head, and zeros above
unfoldable pub group_whole : List ℕ → Bool
group_whole r = is_group (core r) (least r) && ltb (settings r / 16777216) 16

-- "words 1 and 2 within the limits"
unfoldable pub limits_whole : List ℕ → Bool
limits_whole r = leb (entered r) 4294967295 && leb (number r) 4294967295

-- "last primary none or with own head in it"
unfoldable pub primary_whole : List ℕ → Bool
primary_whole r = session_word (primary r) && primary_ok (own r) (primary r)

-- "last formed for q equal to last primary for each q in it, and for other q none or a session with both own head and q and a lower number"
unfoldable pub formed_whole : List ℕ → ℕ → Bool
formed_whole r q = session_word (formed_for r q) && formed_ok (own r) (primary r) q (formed_for r q)

-- "each used place with own head, at least Q heads of W0, .. a number .. at least 1, above the last primary's and at most word 2"
unfoldable pub used_ok : ℕ → ℕ → ℕ → ℕ → ℕ → ℕ → Bool
used_ok own core least p top w =
    session_word w && has w own && enough core least (heads w) && leb 1 (num w) && ltb (rank p) (rank w) && leb (num w) top

unfoldable pub place_whole : List ℕ → ℕ → Bool
place_whole r i = eqb (place_at r i) 0 || used_ok (own r) (core r) (least r) (primary r) (number r) (place_at r i)

-- "a number of its own": no two used places have one number
unfoldable pub apart : List ℕ → ℕ → ℕ → Bool
apart r i j = eqb (place_at r i) 0 || eqb (place_at r j) 0 || not (eqb (num (place_at r i)) (num (place_at r j)))

unfoldable pub apart_whole : List ℕ → ℕ → Bool
apart_whole r i = all_below i (apart r i)

-- "word 2 at least every number": a place's is tested above, and last formed's are at most last primary's
unfoldable pub top_whole : List ℕ → Bool
top_whole r = leb (num (primary r)) (number r)

-- "marks within the place's heads less own; a free place's marks 0"
unfoldable pub marks_ok : ℕ → ℕ → ℕ → Bool
marks_ok own w m = cond (eqb w 0) (eqb m 0) (within m (less (heads w) (only own)))

unfoldable pub marks_whole : List ℕ → ℕ → Bool
marks_whole r i = marks_ok (own r) (place_at r i) (marks_at r i)

-- all of it, of 52 words
unfoldable pub words_whole : List ℕ → Bool
words_whole r =
    group_whole r && limits_whole r && primary_whole r && all_below 16 (formed_whole r) && all_below 16 (place_whole r) && all_below 16 (apart_whole r)
    && top_whole r && all_below 16 (marks_whole r)

unfoldable pub whole : List ℕ → Bool
whole r = eqb (length r) 52 && words_whole r
