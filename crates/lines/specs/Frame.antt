-- Numbers and sessions in the first bytes of a list (document 01, "Lines"): "numbers high byte first. A session is 6 bytes: number, heads." So its six bytes,
-- read as one number, are its word.
use Rattle.std.specs.Prelude.{List, [], ◌∷◌, ℕ, zero, suc, ◌+◌, ◌*◌, get_or, drop}

unfoldable pub two : List ℕ → ℕ
two f = get_or f 0 0 * 256 + get_or f 1 0

unfoldable pub four : List ℕ → ℕ
four f = two f * 65536 + two (drop 2 f)

unfoldable pub six : List ℕ → ℕ
six f = four f * 65536 + two (drop 4 f)

-- n sessions, one after the other
unfoldable pub words : ℕ → List ℕ → List ℕ
words zero f = []
words (suc n) f = six f ∷ words n (drop 6 f)
