-- Answers as small numbers, for C and Rust: 0 done, 1 to 63 the refusal's number, 64 cut, 65 attempted, 66 no quorum, 67 numbers run out, 68 no place;
-- of the quorum test 69 if it holds and 70 if not.
use Rattle.std.specs.Prelude.{ℕ}
use Rattle.group.specs.Answers.{Said, started, recovered, entered, heard, attempted, no-quorum, numbers-run-out, no_place, formed, cut, written, refused}
use Rattle.group.specs.Answers.{Verdict, holds, fails, refuses}

abbrev pub code : Said → ℕ
code started = 0
code recovered = 0
code entered = 0
code heard = 0
code attempted = 65
code no-quorum = 66
code numbers-run-out = 67
code no_place = 68
code formed = 0
code (written n) = 0
code cut = 64
code (refused n) = n

abbrev pub verdict_code : Verdict → ℕ
verdict_code holds = 69
verdict_code fails = 70
verdict_code (refuses n) = n

-- the length of the line written, 0 where none was
abbrev pub length_of : Said → ℕ
length_of started = 0
length_of recovered = 0
length_of entered = 0
length_of heard = 0
length_of attempted = 0
length_of no-quorum = 0
length_of numbers-run-out = 0
length_of no_place = 0
length_of formed = 0
length_of (written n) = n
length_of cut = 0
length_of (refused n) = 0
