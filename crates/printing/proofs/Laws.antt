-- The lines of sessions, one more at a time, and the line for bytes that are no event.
use mathlib.Core.Path.{◌≡◌, refl}
use mathlib.Core.List.{List, [], ◌∷◌, ◌++◌}
use Prim.Native.Nat.{ℕ, ◌+◌, ◌<◌}
use native.Mathlib.Numerals.{add-one}
use lib.ListN.{length, get_or, drop}
use lib.Seq.{drop-cons}
use Rattle.text.specs.Text.{decimal, digits}
use Rattle.shown.specs.Shown.{field}
use Rattle.printing.specs.Texts.{refused_text, session_line, session_lines}

pub next_session : (before : ℕ) (L : List ℕ) (i : ℕ) → i < length L
    → session_lines before (drop i L) ≡ session_line before (get_or L i 0) ++ session_lines (get_or L i 0) (drop (i + 1) L)
unfolding session_lines
next_session before L i h = rw (add-one, drop-cons L i 0 h)

pub no_session : (before : ℕ) → session_lines before [] ≡ []
unfolding session_lines
no_session before = refl

pub refused_three : refused_text 3 ≡ 82 ∷ 32 ∷ 51 ∷ 10 ∷ []
unfolding refused_text field decimal digits
refused_three = refl
