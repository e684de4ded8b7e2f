-- What the bench prints: a line for each event line, and at the end a line for each formed session.
use Rattle.std.specs.Prelude.{codes, cond, List, [], ◌∷◌, ◌++◌, ℕ, ltb}
use Rattle.group.specs.Answers.{Said, started, recovered, entered, heard, attempted, no-quorum, numbers-run-out, no_place, formed, cut, written, refused}
use Rattle.group.specs.Heads.{common}
use Rattle.group.specs.Words.{heads, num}
use Rattle.shown.specs.Shown.{field, heads_text}
use Rattle.deeds.specs.Told.{Told, call, announced, armed}

-- `R n`
unfoldable pub refused_text : ℕ → List ℕ
refused_text n = (82 ∷ []) ++ field n ++ (10 ∷ [])

-- a call's answer; no event answers `written`
abbrev pub said_text : Said → List ℕ
said_text started = codes "started\n"
said_text recovered = codes "recovered\n"
said_text entered = codes "entered\n"
said_text heard = codes "heard\n"
said_text attempted = codes "attempted\n"
said_text no-quorum = codes "no quorum\n"
said_text numbers-run-out = codes "numbers run out\n"
said_text no_place = codes "no place\n"
said_text formed = codes "formed\n"
said_text (written n) = codes "written\n"
said_text cut = codes "cut\n"
said_text (refused n) = refused_text n

abbrev pub told_text : Told → List ℕ
told_text (call a) = said_text a
told_text announced = codes "announced\n"
told_text armed = codes "armed\n"

-- `F HHHH number SSSS`: heads, number, and the heads shared with the session before
unfoldable pub session_line : ℕ → ℕ → List ℕ
session_line before w = (70 ∷ []) ++ heads_text w ++ field (num w) ++ heads_text (common (heads w) (heads before)) ++ (10 ∷ [])

-- "then the formed sessions in order of number with the heads each shares with the one before"; nothing stands before the first, so it shares none
unfoldable pub session_lines : ℕ → List ℕ → List ℕ
session_lines before [] = []
session_lines before (w ∷ L) = session_line before w ++ session_lines w L

unfoldable pub closing : List ℕ → List ℕ
closing L = session_lines 0 L

-- last bytes without newline, after the last whole line: they are no event
unfoldable pub last_text : ℕ → ℕ → List ℕ
last_text stop end = cond (ltb stop end) (refused_text 3) []
