-- Characters (document 01, "Lines"): "Lower-case hexadecimal, one frame a line, newline (0a) last".
use Rattle.std.specs.Prelude.{Bool, cond, ◌&&◌, ◌||◌, List, [], ◌∷◌, ℕ, suc, ◌+◌, ◌*◌, ◌/◌, ◌%◌, take, drop, ltb, leb, eqb}

-- 0 to 9 (30 to 39 in hexadecimal) and a to f (61 to 66)
unfoldable pub is_digit : ℕ → Bool
is_digit c = (leb 48 c && leb c 57) || (leb 97 c && leb c 102)

-- the digit of a value below 16
unfoldable pub digit : ℕ → ℕ
digit n = cond (ltb n 10) (n + 48) (n + 87)

-- The value of a digit: the character's low four bits, and nine more for a letter. Of no other character is it asked.
unfoldable pub nib : ℕ → ℕ
nib c = (c % 16 + c / 64 * 9) % 16

-- bytes as characters, two for each, and back; a last odd character spells no byte
unfoldable pub hex_of : List ℕ → List ℕ
hex_of [] = []
hex_of (b ∷ f) = digit (b / 16) ∷ digit (b % 16) ∷ hex_of f

unfoldable pub unhex : List ℕ → List ℕ
unhex [] = []
unhex (a ∷ []) = []
unhex (a ∷ b ∷ s) = (nib a * 16 + nib b) ∷ unhex s

-- how many characters stand before the first newline: all, if there is none
unfoldable pub line_end : List ℕ → ℕ
line_end [] = 0
line_end (c ∷ s) = cond (eqb c 10) 0 (suc (line_end s))

-- the first line without its newline
unfoldable pub line_of : List ℕ → List ℕ
line_of s = take (line_end s) s

-- "the rest of the lent bytes after that line; the rest is the empty end if there is no newline"
unfoldable pub rest_of : List ℕ → List ℕ
rest_of s = drop (suc (line_end s)) s
