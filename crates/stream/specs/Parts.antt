-- The input in parts: what is printed part by part, and what is held of a line between two parts.
use Rattle.std.specs.Prelude.{◌≡◌, List, [], ◌∷◌, ◌++◌, ℕ, ◌≤◌, length, take}
use Rattle.lines.specs.Walk.{whole_lines, begun, last_line, join}
use Rattle.shown.specs.Shown.{printed, frames}

-- n counts bytes at the start of xs; both facts, so that a caller may lend the first n
abbrev pub Counts : ℕ → List ℕ → Type 0
Counts n xs = (n ≤ length xs) × (n ≡ length (take n xs))

-- What is printed when the input comes in these parts and h is held of the line begun before them: for each part its whole lines (what `feed` prints), with the
-- first 420 bytes of the line that it begins held for the next; at the end the last line (what `finish` prints).
unfoldable pub run : List ℕ → List (List ℕ) → List ℕ
run h [] = printed (last_line h)
run h (c ∷ cs) = printed (whole_lines [] (h ++ c)) ++ run (take 420 (begun [] (h ++ c))) cs

-- Whatever the parts, what is printed is what the whole input prints.
abbrev pub AnyParts : Type 0
AnyParts = (cs : List (List ℕ)) → run [] cs ≡ frames (join cs)
