-- The lines of a text, in order. Document 01: "A line of any length counts once; so do last bytes without newline."
use Rattle.std.specs.Prelude.{cond, List, [], ◌∷◌, ◌++◌, ℕ, zero, suc, take, eqb}
use Rattle.lines.specs.Hex.{line_end, rest_of}

-- the lines of s that end, each with its newline; p are bytes of the first one that stood before s
unfoldable pub whole_lines : List ℕ → List ℕ → List (List ℕ)
whole_lines p [] = []
whole_lines p (b ∷ s) = cond (eqb b 10) ((p ++ (b ∷ [])) ∷ whole_lines [] s) (whole_lines (p ++ (b ∷ [])) s)

-- the bytes after the last newline of s; p are bytes of the same line that stood before s
unfoldable pub begun : List ℕ → List ℕ → List ℕ
begun p [] = p
begun p (b ∷ s) = cond (eqb b 10) (begun [] s) (begun (p ++ (b ∷ [])) s)

-- last bytes without newline are a line, if there are any
unfoldable pub last_line : List ℕ → List (List ℕ)
last_line [] = []
last_line (b ∷ p) = (b ∷ p) ∷ []

unfoldable pub lines_of : List ℕ → List (List ℕ)
lines_of s = whole_lines [] s ++ last_line (begun [] s)

-- lists one after the other
unfoldable pub join : List (List ℕ) → List ℕ
join [] = []
join (l ∷ ls) = l ++ join ls

-- the first line with its newline: what `rest_of` leaves behind
unfoldable pub first_of : List ℕ → List ℕ
first_of s = take (suc (line_end s)) s

-- what is left of lent bytes after n lines
unfoldable pub rest_after : ℕ → List ℕ → List ℕ
rest_after zero s = s
rest_after (suc n) s = rest_after n (rest_of s)
