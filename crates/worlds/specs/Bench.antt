-- The bench as a whole: what it knows, and what an event line does to it. Document 02, Item 1.
use Rattle.std.specs.Prelude.{Bool, true, false, ◌||◌, List, [], ◌∷◌, ◌++◌, ℕ, zero, suc, ◌-◌, get_or, set, replicate, Option, None}
use Rattle.group.specs.Words.{session}
use Rattle.lines.specs.Walk.{lines_of}
use Rattle.events.specs.declared.Event.{Event}
use Rattle.deeds.specs.declared.What.{What}
use Rattle.deeds.specs.declared.What.TheVariants as what
use Rattle.formed.specs.Formed.{noted}
use Rattle.printing.specs.Texts.{told_text, closing}
use Rattle.asking.specs.Asking.{to_of, from_of, what_of, event_in}
use Rattle.seat.specs.declared.Seat.{Seat}
use Rattle.seat.specs.Seat.{empty_seat}
use Rattle.seat.specs.Played.{Played, starts, played_by}

pub record Bench : Type 0 where
  -- whether a group line was taken
  pub grouped : Bool
  -- "The sixteen heads stand in one lent table"
  pub table : List Seat
  -- the views announced, in the order of their events
  pub views : List ℕ
  -- the formed sessions in order of number
  pub formed : List ℕ
  -- what is printed
  pub text : List ℕ

-- ---- the heads

-- head i; past the end of the table there is none
abbrev pub seat_at : List Seat → ℕ → Seat
seat_at t i = get_or t i (record { words = []; session = record { stage = 0; view = 0; members = 0; states = 0; attempts = 0; held = record { of = [] } }; sent = []; cut = None })

-- the last n heads started, one after the other
unfoldable pub start_last : ℕ → ℕ → ℕ → List Seat → List Seat
start_last core least zero t = t
start_last core least (suc n) t = start_last core least n (set t (15 - n) (starts (seat_at t (15 - n)) (15 - n) core least).seat)

-- ---- what the bench itself keeps of it

abbrev pub opens : What → Bool
opens (what.Refuse n) = false
opens (what.Announce v m) = false
opens (what.Open core least) = true
opens (what.Start core least) = false
opens (what.Enter view m) = false
opens (what.HearState which) = false
opens (what.HearAttempt which) = false
opens what.Decide = false
opens what.Form = false
opens what.Recover = false
opens (what.Arm k) = false

-- "10 group (..; starts all sixteen heads)"
abbrev pub all_started : What → List Seat → List Seat
all_started (what.Refuse n) t = t
all_started (what.Announce v m) t = t
all_started (what.Open core least) t = start_last core least 16 t
all_started (what.Start core least) t = t
all_started (what.Enter view m) t = t
all_started (what.HearState which) t = t
all_started (what.HearAttempt which) t = t
all_started what.Decide t = t
all_started what.Form t = t
all_started what.Recover t = t
all_started (what.Arm k) t = t

-- the view that is announced
abbrev pub new_views : What → List ℕ
new_views (what.Refuse n) = []
new_views (what.Announce v m) = session v m ∷ []
new_views (what.Open core least) = []
new_views (what.Start core least) = []
new_views (what.Enter view m) = []
new_views (what.HearState which) = []
new_views (what.HearAttempt which) = []
new_views what.Decide = []
new_views what.Form = []
new_views what.Recover = []
new_views (what.Arm k) = []

-- head `to` acts, hearing head `from`, and the bench keeps what it is to keep
unfoldable pub acts : ℕ → ℕ → What → Bench → Played
acts to from w b = played_by to (seat_at b.table to) (seat_at b.table from) w

unfoldable pub obeyed : ℕ → ℕ → What → Bench → Bench
obeyed to from w b = record {
  grouped = opens w || b.grouped;
  table = all_started w (set b.table to (acts to from w b).seat);
  views = b.views ++ new_views w;
  formed = noted (acts to from w b).formed b.formed;
  text = b.text ++ told_text (acts to from w b).reply;
}

unfoldable pub happens : Option Event → Bench → Bench
happens e b = obeyed (to_of e) (from_of e) (what_of e b.grouped b.views) b

-- ---- lines

unfoldable pub taken : List ℕ → Bench → Bench
taken l b = happens (event_in l) b

unfoldable pub played : List (List ℕ) → Bench → Bench
played [] b = b
played (l ∷ ls) b = played ls (taken l b)

-- nothing has happened
unfoldable pub new_bench : Bench
new_bench = record { grouped = false; table = replicate 16 empty_seat; views = []; formed = []; text = [] }

-- "It prints each event's answer, then the formed sessions in order of number with the heads each shares with the one before."
unfoldable pub bench : List ℕ → List ℕ
bench s = (played (lines_of s) new_bench).text ++ closing (played (lines_of s) new_bench).formed
