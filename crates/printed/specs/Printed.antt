-- Document 02, Item 1: "What it prints of formed sessions is proved to be those of the history, so demand 3 reads over it." Which history the event lines are: each event
-- that makes its head act is one or two events of crate history, with the head's own record, session and stores.
use Rattle.std.specs.Prelude.{true, false, cond, List, [], ◌∷◌, ◌++◌, ◌≡◌, ℕ, zero, suc, ◌-◌, ◌≤◌, ◌<◌, eqb, length, Option, Some, None}
use Rattle.group.specs.Answers.{Said, started, recovered, entered, heard, attempted, no-quorum, numbers-run-out, no_place, formed, cut, written, refused}
use Rattle.record.specs.Start.{taken_least}
use Rattle.lines.specs.Walk.{lines_of}
use Rattle.history.specs.Setting.{Setting}
use Rattle.history.specs.Statement.{running, World, Call, enter, hear-state, hear-attempt, decide, form, recover, write-state, write-attempt, Event, start, call, empty, step, History, in_order, Ordered}
use Rattle.events.specs.declared.Event.{Event as Line}
use Rattle.events.specs.declared.Event.TheVariants as event
use Rattle.keeping.specs.declared.Kept.{Kept}
use Rattle.seat.specs.declared.Seat.{Seat}
use Rattle.deeds.specs.declared.What.{What}
use Rattle.deeds.specs.declared.What.TheVariants as what
use Rattle.keeping.specs.Keeping.{blank, kept_at, is_line, line_of}
use Rattle.seat.specs.Seat.{empty_seat, stores_of}
use Rattle.seat.specs.Played.{entry, decision}
use Rattle.views.specs.Views.{members_of}
use Rattle.formed.specs.Formed.{insert, noted}
use Rattle.printing.specs.Texts.{closing}
use Rattle.worlds.specs.Bench.{Bench, seat_at, acts, taken, played, new_bench, bench}
use Rattle.asking.specs.Asking.{to_of, from_of, what_of, event_in}

-- ---- the history that the event lines are

-- "10 group (..; starts all sixteen heads)": the last n of them, each on words that hold nothing
unfoldable pub starting : ℕ → ℕ → List Event
starting least zero = []
starting least (suc n) = start (15 - n) empty_seat.words least ∷ starting least n

-- "Entering sends the state line, attempting sends the attempt line.": by what entering and deciding answered
abbrev pub sends_state : ℕ → Said → List Event
sends_state p entered = call p false 0 (write-state blank) ∷ []
sends_state p started = []
sends_state p recovered = []
sends_state p heard = []
sends_state p attempted = []
sends_state p no-quorum = []
sends_state p numbers-run-out = []
sends_state p no_place = []
sends_state p formed = []
sends_state p cut = []
sends_state p (written n) = []
sends_state p (refused n) = []

abbrev pub sends_attempt : ℕ → Said → List Event
sends_attempt p attempted = call p false 0 (write-attempt blank) ∷ []
sends_attempt p started = []
sends_attempt p recovered = []
sends_attempt p entered = []
sends_attempt p heard = []
sends_attempt p no-quorum = []
sends_attempt p numbers-run-out = []
sends_attempt p no_place = []
sends_attempt p formed = []
sends_attempt p cut = []
sends_attempt p (written n) = []
sends_attempt p (refused n) = []

-- "14 .. for a line not kept": nothing is heard then
unfoldable pub hears : ℕ → (List ℕ → Call) → Kept → List Event
hears p c k = cond (is_line k.len) (call p false 0 (c (line_of k)) ∷ []) []

-- head p is h, and hears head g
abbrev pub events_by : ℕ → Seat → Seat → What → List Event
events_by p h g (what.Refuse n) = []
events_by p h g (what.Announce v m) = []
events_by p h g (what.Open core least) = starting least 16
events_by p h g (what.Start core least) = []
events_by p h g (what.Enter view m) = call p false (stores_of h) (enter view) ∷ sends_state p (entry h view m).answer
events_by p h g (what.HearState which) = hears p hear-state (kept_at g.sent which)
events_by p h g (what.HearAttempt which) = hears p hear-attempt (kept_at g.sent which)
events_by p h g what.Decide = call p false (stores_of h) decide ∷ sends_attempt p (decision h).answer
events_by p h g what.Form = call p false (stores_of h) form ∷ []
events_by p h g what.Recover = call p false (stores_of h) recover ∷ []
events_by p h g (what.Arm k) = []

unfoldable pub events_of : Option Line → Bench → List Event
events_of e b = events_by (to_of e) (seat_at b.table (to_of e)) (seat_at b.table (from_of e)) (what_of e b.grouped b.views)

unfoldable pub events_in : List (List ℕ) → Bench → List Event
events_in [] b = []
events_in (l ∷ ls) b = events_of (event_in l) b ++ events_in ls (taken l b)

-- the world after these events
unfoldable pub after : Setting → List Event → World → World
after S [] W = W
after S (e ∷ es) W = after S es (step S e W)

-- ---- its setting

-- the first group line; "a second group line" is refused
abbrev pub or_else : Option Line → Option Line → Option Line
or_else (Some (event.GroupIs core least)) e = Some (event.GroupIs core least)
or_else None e = e
or_else (Some (event.ViewIs v m)) e = e
or_else (Some (event.Enter h v)) e = e
or_else (Some (event.GiveState d)) e = e
or_else (Some (event.Decide h)) e = e
or_else (Some (event.GiveAttempt d)) e = e
or_else (Some (event.Form h)) e = e
or_else (Some (event.Cut h k)) e = e
or_else (Some (event.Recover h)) e = e

unfoldable pub group_line : List (List ℕ) → Option Line
group_line [] = None
group_line (l ∷ ls) = or_else (event_in l) (group_line ls)

-- W0 and Q are the group line's, and a view number stands for the heads that were announced with it, for none where it was not
pub record SettingOf (ls : List (List ℕ)) (views : List ℕ) (S : Setting) : Type 0 where
  pub given : ℕ
  pub group : group_line ls ≡ Some (event.GroupIs S.core given)
  pub takes : taken_least given ≡ S.least
  pub members : (v : ℕ) → S.members v ≡ members_of v views

-- ---- what is proved

-- the bench after the lines of a text, and the world after its history
abbrev pub bench_after : List ℕ → Bench
bench_after s = played (lines_of s) new_bench

abbrev pub world_after : Setting → List ℕ → World
world_after S s = after S (events_in (lines_of s) new_bench) (empty S)

-- a text in which a group line was taken: its events are a history, with the table's heads; the sessions printed are its formed sessions in order of number, each once,
-- the core group's first and each sharing a head with the one before (`Ordered`); there is at most one for each view and the core group's, and so at most 1,001
pub record OfHistory (s : List ℕ) : Type 0 where
  pub setting : Setting
  pub is : SettingOf (lines_of s) (bench_after s).views setting
  pub history : History setting (world_after setting s)
  pub heads : (p : ℕ) → p < 16 → (world_after setting s).head p ≡ running (seat_at (bench_after s).table p).words (seat_at (bench_after s).table p).session
  pub listed : (bench_after s).formed ≡ in_order (world_after setting s).formed
  pub prints : bench s ≡ (bench_after s).text ++ closing (in_order (world_after setting s).formed)
  pub ordered : Ordered setting (world_after setting s).formed
  pub few : length (bench_after s).formed ≤ suc (length (bench_after s).views)
  pub fits : length (bench_after s).formed ≤ 1001

pub record Printed (s : List ℕ) : Type 0 where
  pub grouped : (bench_after s).grouped ≡ true → OfHistory s
  -- without a group line there is no session to print
  pub ungrouped : (bench_after s).grouped ≡ false → (bench_after s).formed ≡ []

-- the session that the bench b forms on the event of line l, 0 for none
unfoldable pub formed_by : List ℕ → Bench → ℕ
formed_by l b = (acts (to_of (event_in l)) (from_of (event_in l)) (what_of (event_in l) b.grouped b.views) b).formed

-- "There is room for 1,001": the list never lacks room for a session formed on line l, whatever the lines before it
abbrev pub Room : List (List ℕ) → List ℕ → Type 0
Room ls l =
    noted (formed_by l (played ls new_bench)) (played ls new_bench).formed
    ≡ cond (eqb (formed_by l (played ls new_bench)) 0) (played ls new_bench).formed (insert (formed_by l (played ls new_bench)) (played ls new_bench).formed)
