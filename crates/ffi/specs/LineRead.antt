-- A line that was read, as numbers: kind 1 a state, 2 an attempt, 0 a line that breaks a rule, with that rule's number; and how many of the lent bytes come after it.
use Rattle.std.specs.Prelude.{List, ℕ, length}
use Rattle.lines.specs.Hex.{rest_of}
use Rattle.lines.specs.Reading.{read_line}
use Rattle.lines.specs.Read.{Line, StateLine, AttemptLine, Broken}
use Rattle.state.specs.declared.State.{State}
use Rattle.ffi.specs.declared.reading.LineRead.{LineRead}

abbrev pub as_numbers : Line → State → ℕ → LineRead
as_numbers (StateLine view sender) st left = record { kind = 1; rule = 0; sender = sender; view = view; left = left; state = st }
as_numbers (AttemptLine view sender) st left = record { kind = 2; rule = 0; sender = sender; view = view; left = left; state = st }
as_numbers (Broken rule) st left = record { kind = 0; rule = rule; sender = 0; view = 0; left = left; state = st }

unfoldable pub line_read : List ℕ → LineRead
line_read s = as_numbers (read_line s).line (read_line s).state (length (rest_of s))
