-- What an exported call of a head ends with: the number of its answer, the record's words, the session handed back; of a writing call also the length of the line.
use Rattle.std.specs.Prelude.{List, ℕ}
use Rattle.head.specs.declared.session.Session.{Session}
use Rattle.head.specs.Calls.{Ended, Wrote}
use Rattle.ffi.specs.declared.calls.HeadEnd.{HeadEnd}
use Rattle.ffi.specs.declared.calls.HeadLine.{HeadLine}
use Rattle.codes.specs.Codes.{code, length_of}

pub record Coded : Type 0 where
  pub number : ℕ
  pub words : List ℕ
  pub session : Session

-- a call's end as it is handed out, and as its definition says
abbrev pub coded : List ℕ → HeadEnd → Coded
coded words r = record { number = r.code; words = words; session = r.session }

abbrev pub coded_of : Ended → Coded
coded_of e = record { number = code e.answer; words = e.words; session = e.session }

pub record Lined : Type 0 where
  pub number : ℕ
  pub length : ℕ
  pub session : Session
  pub out : List ℕ

abbrev pub lined : List ℕ → HeadLine → Lined
lined out r = record { number = r.code; length = r.length; session = r.session; out = out }

abbrev pub lined_of : Wrote → Lined
lined_of w = record { number = code w.answer; length = length_of w.answer; session = w.session; out = w.out }
