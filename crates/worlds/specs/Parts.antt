-- The input in parts: what the bench comes to part by part, and what is held of a line between two parts.
use Rattle.std.specs.Prelude.{List, [], ◌∷◌, ◌++◌, ◌≡◌, ℕ, take}
use Rattle.lines.specs.Walk.{whole_lines, begun, last_line, lines_of, join}
use Rattle.worlds.specs.Bench.{Bench, played}

-- What bench b comes to when the input comes in these parts and h is held of the line begun before them: for each part its whole lines are played, with the first
-- 15 bytes of the line that it begins held for the next; at the end the last line.
unfoldable pub runs : List ℕ → List (List ℕ) → Bench → Bench
runs h [] b = played (last_line h) b
runs h (c ∷ cs) b = runs (take 15 (begun [] (h ++ c))) cs (played (whole_lines [] (h ++ c)) b)

-- Whatever the parts, the bench comes to what the whole input makes of it.
abbrev pub AnyParts : Type 0
AnyParts = (cs : List (List ℕ)) (b : Bench) → runs [] cs b ≡ played (lines_of (join cs)) b
