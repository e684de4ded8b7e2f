-- What the next event line asks of a head: the bench's own refusals come first. Document 02, Item 1.
use Rattle.std.specs.Prelude.{Bool, cond, List, ℕ, ◌+◌, ◌-◌, ltb, length, take, drop, Option, Some, None}
use Rattle.lines.specs.Hex.{line_end, line_of}
use Rattle.lines.specs.Walk.{first_of}
use Rattle.events.specs.declared.Event.{Event}
use Rattle.events.specs.declared.Event.TheVariants as event
use Rattle.events.specs.Events.{event_of}
use Rattle.deeds.specs.declared.What.{What}
use Rattle.deeds.specs.declared.What.TheVariants as what
use Rattle.views.specs.Views.{view_what, enter_what}
use Rattle.asking.specs.declared.Order.{Order}
use Rattle.asking.specs.declared.World.{World}

-- ---- events

-- which head an event is for, and which head's line it delivers
abbrev pub to_of : Option Event → ℕ
to_of None = 0
to_of (Some (event.GroupIs core least)) = 0
to_of (Some (event.ViewIs v m)) = 0
to_of (Some (event.Enter h v)) = h
to_of (Some (event.GiveState d)) = d.to
to_of (Some (event.Decide h)) = h
to_of (Some (event.GiveAttempt d)) = d.to
to_of (Some (event.Form h)) = h
to_of (Some (event.Cut h k)) = h
to_of (Some (event.Recover h)) = h

abbrev pub from_of : Option Event → ℕ
from_of None = 0
from_of (Some (event.GroupIs core least)) = 0
from_of (Some (event.ViewIs v m)) = 0
from_of (Some (event.Enter h v)) = h
from_of (Some (event.GiveState d)) = d.from
from_of (Some (event.Decide h)) = h
from_of (Some (event.GiveAttempt d)) = d.from
from_of (Some (event.Form h)) = h
from_of (Some (event.Cut h k)) = h
from_of (Some (event.Recover h)) = h

-- "14 for an event before its group line"
abbrev pub in_group : Bool → What → What
in_group grouped w = cond grouped w (what.Refuse 14)

-- "for a second group line"
abbrev pub group_what : Bool → ℕ → ℕ → What
group_what grouped core least = cond grouped (what.Refuse 14) (what.Open core least)

-- what an event has a head do: "Refusals: 3 for an event that isn't of this form ..; then 14 ..; both before the head's own refusals"
abbrev pub what_of : Option Event → Bool → List ℕ → What
what_of None grouped views = what.Refuse 3
what_of (Some (event.GroupIs core least)) grouped views = group_what grouped core least
what_of (Some (event.ViewIs v m)) grouped views = view_what grouped views v m
what_of (Some (event.Enter h v)) grouped views = enter_what grouped views v
what_of (Some (event.GiveState d)) grouped views = in_group grouped (what.HearState d.which)
what_of (Some (event.Decide h)) grouped views = in_group grouped what.Decide
what_of (Some (event.GiveAttempt d)) grouped views = in_group grouped (what.HearAttempt d.which)
what_of (Some (event.Form h)) grouped views = in_group grouped what.Form
what_of (Some (event.Cut h k)) grouped views = in_group grouped (what.Arm k)
what_of (Some (event.Recover h)) grouped views = in_group grouped what.Recover

-- the event of a line that stands with its newline; without one it is no event
abbrev pub event_in : List ℕ → Option Event
event_in l = cond (ltb (line_end l) (length l)) (event_of (line_of l)) None

-- ---- what a step asks

-- the part of the input that is left: its lines all end
abbrev pub left : List ℕ → World → List ℕ
left s w = take (w.stop - w.at) (drop w.at s)

-- a head that the group line has yet to start
abbrev pub start_order : World → Order
start_order w = record { to = 16 - w.starting; from = 16 - w.starting; next = w.at; what = what.Start w.core w.least }

abbrev pub order_for : Option Event → Bool → List ℕ → ℕ → Order
order_for e grouped views next = record { to = to_of e; from = from_of e; next = next; what = what_of e grouped views }

-- the next line, with its newline, and where the one after it begins
abbrev pub line_now : List ℕ → World → List ℕ
line_now s w = first_of (left s w)

abbrev pub next_now : List ℕ → World → ℕ
next_now s w = w.at + line_end (left s w) + 1

abbrev pub order_of : List ℕ → List ℕ → World → Order
order_of views s w =
    cond (ltb 0 w.starting) (start_order w) (order_for (event_in (line_now s w)) w.grouped views (next_now s w))
