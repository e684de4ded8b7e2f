-- The heads of a session, byte by byte.
use mathlib.Core.Path.{◌≡◌}
use mathlib.Core.List.{[], ◌∷◌, ◌++◌}
use Prim.Native.Nat.{ℕ, ◌/◌, ◌%◌}
use native.Mathlib.Omega.{arith}
use Rattle.lines.specs.Hex.{hex_of}
use Rattle.lines.specs.Writing.{bytes2}
use Rattle.shown.specs.Shown.{heads_text}

-- the heads are the two low bytes of the word
pub heads_in_bytes : (w : ℕ) → heads_text w ≡ (32 ∷ []) ++ hex_of (w / 256 % 256 ∷ []) ++ hex_of (w % 256 ∷ [])
unfolding heads_text hex_of bytes2
heads_in_bytes w =
    let a : w % 65536 / 256 % 256 ≡ w / 256 % 256 = omega arith in
    let b : w % 65536 % 256 ≡ w % 256 = omega arith in
    rw (a, b)
