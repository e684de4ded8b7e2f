-- What a head of the bench does on an event: the head after it, what is printed, and the session it formed, 0 for none. Each is the call's own definition
-- (crates record, recovery and head) on the head's record and session, "each call gets the session its head last got back".
use Rattle.std.specs.Prelude.{cond, List, ℕ, Some, None}
use Rattle.group.specs.Answers.{Said, started, refused}
use Rattle.record.specs.Layout.{primary}
use Rattle.record.specs.Outcome.{Outcome}
use Rattle.record.specs.Start.{start_spec}
use Rattle.recovery.specs.Recover.{recover_spec}
use Rattle.formed.specs.Formed.{newly}
use Rattle.head.specs.declared.session.Session.{Session}
use Rattle.head.specs.Session.{no_session}
use Rattle.head.specs.Calls.{Ended, enter_spec, hear_state_spec, hear_attempt_spec, decide_spec, form_spec}
use Rattle.keeping.specs.declared.Kept.{Kept}
use Rattle.seat.specs.declared.Seat.{Seat}
use Rattle.seat.specs.declared.Next.{Next}
use Rattle.seat.specs.declared.Line.{Line}
use Rattle.seat.specs.declared.Line.TheVariants as line
use Rattle.deeds.specs.Told.{Told, call, announced, armed, told}
use Rattle.deeds.specs.declared.What.{What}
use Rattle.deeds.specs.declared.What.TheVariants as what
use Rattle.seat.specs.Seat.{stores_of, sent_on_entry, sent_on_decision}
use Rattle.keeping.specs.Keeping.{kept_at, is_line, line_of}

pub record Played : Type 0 where
  pub seat : Seat
  pub reply : Told
  pub formed : ℕ

abbrev pub did : Next → Played
did n = record { seat = n.seat; reply = told n.deed.reply; formed = n.deed.formed }

-- the head stays as it is
abbrev pub does_nothing : Seat → Told → ℕ → Played
does_nothing h t w = record { seat = h; reply = t; formed = w }

-- "10 group (W0 2 bytes, Q 1; starts all sixteen heads)": head p of them
abbrev pub after_start : Seat → Outcome → Played
after_start h o = record {
  seat = record { words = o.rec; session = no_session; sent = h.sent; cut = h.cut };
  reply = call o.answer;
  formed = 0;
}

abbrev pub starts : Seat → ℕ → ℕ → ℕ → Played
starts h p core least = after_start h (start_spec h.words p core least)

-- after a call of the four that store: a cut that waited is used up, "refused or not"
abbrev pub after_call : List ℕ → Session → List Kept → Said → ℕ → Played
after_call words s sent answer formed = record {
  seat = record { words = words; session = s; sent = sent; cut = None };
  reply = call answer;
  formed = formed;
}

-- "12 enter"; "Entering sends the state line"
abbrev pub entry : Seat → ℕ → ℕ → Ended
entry h view m = enter_spec h.session h.words view m (stores_of h)

abbrev pub after_entry : Seat → Ended → Played
after_entry h e = after_call e.words e.session (sent_on_entry e.answer e.session e.words h.sent) e.answer 0

abbrev pub enters : Seat → ℕ → ℕ → Played
enters h view m = after_entry h (entry h view m)

-- after a hearing call, which leaves the record and the cut that waits
abbrev pub listened : Seat → Session → Said → Played
listened h s answer = record {
  seat = record { words = h.words; session = s; sent = h.sent; cut = h.cut };
  reply = call answer;
  formed = 0;
}

abbrev pub after_hearing : Seat → Ended → Played
after_hearing h e = listened h e.session e.answer

-- "13 deliver state and 15 deliver attempt (to 1, from 1, which of the sender's kept lines 1, 0 the newest)"; "14 .. for a line not kept"
abbrev pub hears_state : Seat → Seat → ℕ → Played
hears_state h g which =
    cond (is_line (kept_at g.sent which).len)
    (after_hearing h (hear_state_spec h.session h.words (line_of (kept_at g.sent which))))
    (does_nothing h (call (refused 14)) 0)

abbrev pub hears_attempt : Seat → Seat → ℕ → Played
hears_attempt h g which =
    cond (is_line (kept_at g.sent which).len)
    (after_hearing h (hear_attempt_spec h.session h.words (line_of (kept_at g.sent which))))
    (does_nothing h (call (refused 14)) 0)

-- the same by the kind of line
abbrev pub hear_spec : Line → Session → List ℕ → List ℕ → Ended
hear_spec line.State s r l = hear_state_spec s r l
hear_spec line.Attempt s r l = hear_attempt_spec s r l

abbrev pub hears : Line → Seat → Seat → ℕ → Played
hears line.State h g which = hears_state h g which
hears line.Attempt h g which = hears_attempt h g which

-- "14 decide"; "attempting sends the attempt line"
abbrev pub decision : Seat → Ended
decision h = decide_spec h.session h.words (stores_of h)

abbrev pub after_decision : Seat → Ended → Played
after_decision h e = after_call e.words e.session (sent_on_decision e.answer e.session e.words h.sent) e.answer 0

abbrev pub decides : Seat → Played
decides h = after_decision h (decision h)

-- "16 form"
abbrev pub formation : Seat → Ended
formation h = form_spec h.session h.words (stores_of h)

abbrev pub after_form : Seat → Ended → Played
after_form h e = after_call e.words e.session h.sent e.answer (newly (primary h.words) (primary e.words))

abbrev pub forms : Seat → Played
forms h = after_form h (formation h)

-- "18 recover"; "start and recover leave none" (document 01)
abbrev pub after_recovery : Seat → Outcome → Played
after_recovery h o = after_call o.rec no_session h.sent o.answer 0

abbrev pub recovers : Seat → Played
recovers h = after_recovery h (recover_spec h.words (stores_of h))

-- "17 cut (head 1, k 2: ..; a later 17 replaces an unused one)"
abbrev pub arms : Seat → ℕ → Played
arms h k = record {
  seat = record { words = h.words; session = h.session; sent = h.sent; cut = Some k };
  reply = armed;
  formed = 0;
}

-- what head h, of number p, does on an event in which it hears head g. The group line as such forms the core group's session, (W0, 0).
abbrev pub played_by : ℕ → Seat → Seat → What → Played
played_by p h g (what.Refuse n) = does_nothing h (call (refused n)) 0
played_by p h g (what.Announce v m) = does_nothing h announced 0
played_by p h g (what.Open core least) = does_nothing h (call started) core
played_by p h g (what.Start core least) = starts h p core least
played_by p h g (what.Enter view m) = enters h view m
played_by p h g (what.HearState which) = hears_state h g which
played_by p h g (what.HearAttempt which) = hears_attempt h g which
played_by p h g what.Decide = decides h
played_by p h g what.Form = forms h
played_by p h g what.Recover = recovers h
played_by p h g (what.Arm k) = arms h k
