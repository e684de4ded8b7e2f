-- Document 02, Item 1: "lines of lower-case hexadecimal, one event a line, its kind in the first byte". A line is given without its newline: n is the number of its
-- characters, two for each byte, and f the bytes that they spell, numbers high byte first as in document 01's lines. A line that is no event gives None.
use Rattle.std.specs.Prelude.{Bool, cond, ◌&&◌, List, ℕ, eqb, leb, length, get_or, drop, Option, Some, None}
use Rattle.std.specs.Option.{option_map}
use Rattle.loops.specs.Below.{every}
use Rattle.lines.specs.Hex.{is_digit, unhex}
use Rattle.lines.specs.Frame.{two, four}
use Rattle.record.specs.Start.{can_start, taken_least}
use Rattle.events.specs.declared.Delivery.{Delivery}
use Rattle.events.specs.declared.Event.{Event}
use Rattle.events.specs.declared.Event.TheVariants.{GroupIs, ViewIs, Enter, GiveState, Decide, GiveAttempt, Form, Cut, Recover}

-- "Refusals: 3 for an event that isn't of this form or names a head over 15": such a line is no event
abbrev pub named : {A : Type 0} → ℕ → Option A → Option A
named head e = cond (leb head 15) e None

abbrev pub byte_at : ℕ → List ℕ → ℕ
byte_at k f = get_or f k 0

-- the head in byte k
abbrev pub head_at : ℕ → List ℕ → Option ℕ
head_at k f = named (byte_at k f) (Some (byte_at k f))

-- "A group line that start refuses isn't one."
unfoldable pub starts : ℕ → ℕ → Bool
starts core least = can_start 0 core (taken_least least)

-- "10 group (W0 2 bytes, Q 1; ..)"
abbrev pub group_event : ℕ → List ℕ → Option Event
group_event n f =
    cond (eqb n 8) (cond (starts (two (drop 1 f)) (byte_at 3 f)) (Some (GroupIs (two (drop 1 f)) (byte_at 3 f))) None) None

-- "11 view (number 4, heads 2)"
abbrev pub view_event : ℕ → List ℕ → Option Event
view_event n f = cond (eqb n 14) (Some (ViewIs (four (drop 1 f)) (two (drop 5 f)))) None

-- "12 enter (head 1, number 4)"
abbrev pub enter_event : ℕ → List ℕ → Option Event
enter_event n f = cond (eqb n 12) (named (byte_at 1 f) (Some (Enter (byte_at 1 f) (four (drop 2 f))))) None

-- "13 deliver state and 15 deliver attempt (to 1, from 1, which of the sender's kept lines 1, 0 the newest)"
abbrev pub delivery : ℕ → List ℕ → Option Delivery
delivery n f =
    cond (eqb n 8) (named (byte_at 1 f) (named (byte_at 2 f) (Some (record { to = byte_at 1 f; from = byte_at 2 f; which = byte_at 3 f })))) None

-- "14 decide, 16 form and 18 recover (head 1)"
abbrev pub one_head : ℕ → List ℕ → Option ℕ
one_head n f = cond (eqb n 4) (head_at 1 f) None

-- "17 cut (head 1, k 2: ..)"
abbrev pub cut_event : ℕ → List ℕ → Option Event
cut_event n f = cond (eqb n 8) (named (byte_at 1 f) (Some (Cut (byte_at 1 f) (two (drop 2 f))))) None

-- "its kind in the first byte": 10 to 18 in hexadecimal
abbrev pub of_kind : ℕ → ℕ → List ℕ → Option Event
of_kind kind n f =
    cond (eqb kind 0x10) (group_event n f)
    (cond (eqb kind 0x11) (view_event n f)
    (cond (eqb kind 0x12) (enter_event n f)
    (cond (eqb kind 0x13) (option_map (λ d. GiveState d) (delivery n f))
    (cond (eqb kind 0x14) (option_map (λ h. Decide h) (one_head n f))
    (cond (eqb kind 0x15) (option_map (λ d. GiveAttempt d) (delivery n f))
    (cond (eqb kind 0x16) (option_map (λ h. Form h) (one_head n f))
    (cond (eqb kind 0x17) (cut_event n f)
    (cond (eqb kind 0x18) (option_map (λ h. Recover h) (one_head n f)) None))))))))

abbrev pub event_of : List ℕ → Option Event
event_of l = cond (every is_digit l && leb 4 (length l)) (of_kind (byte_at 0 (unhex l)) (length l) (unhex l)) None
