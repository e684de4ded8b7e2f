-- The next line of what is left, its event, and what it asks.
use mathlib.Core.Bool.{Bool, cond, ◌&&◌, true, false}
use mathlib.Core.List.{List}
use mathlib.Core.Path.{◌≡◌, ap}
use Prim.Native.Nat.{ℕ, ◌≤◌, ◌<◌, suc, ◌-◌}
use native.Mathlib.Omega.{arith}
use borrow.Author.Tests.{lt-ltb, le-ltb, leb-true}
use lib.Dec.{eqb, leb, ltb}
use Rattle.std.specs.Prelude.{Option, Some, None}
use Rattle.std.specs.Option.{option_map}
use lib.ListN.{length, take, drop, length-drop}
use lib.Seq.{length-take-le, take_all}
use Rattle.loops.specs.Below.{every}
use Rattle.loops.proofs.Laws.Truth.{cond-elim}
use Rattle.lines.specs.Frame.{two}
use Rattle.lines.specs.Hex.{is_digit, unhex, line_end, line_of}
use Rattle.lines.specs.Walk.{first_of}
use Rattle.lines.proofs.Laws.Walk.{line-end-first, line-of-first}
use Rattle.events.specs.declared.Event.{Event}
use Rattle.events.specs.declared.Event.TheVariants as event
use Rattle.events.specs.declared.Delivery.{Delivery}
use Rattle.events.proofs.Laws.{of-one-head, of-delivery}
use Rattle.events.specs.Events.{named, byte_at, starts, of_kind, event_of}
use Rattle.deeds.specs.declared.What.TheVariants as what
use Rattle.views.specs.Views.{enter_what, announced, members_of}
use Rattle.views.proofs.Laws.{room_of}
use Rattle.asking.specs.declared.World.{World}
use Rattle.asking.specs.Asking.{to_of, from_of, event_in, what_of, left}

-- ---- an event names heads below 16

pub record Named (e : Option Event) : Type 0 where
  pub to : to_of e < 16
  pub from : from_of e < 16

none-named : Named None
none-named = record { to = omega arith; from = omega arith }

if-named : (b : Bool) (e : Option Event) → Named e → Named (cond b e None)
if-named b e f = cond-elim Named b e None (λ t. f) (λ t. none-named)

one-named : (h : ℕ) (e : Option Event) → (h ≤ 15 → Named e) → Named (named h e)
one-named h e f = cond-elim Named (leb h 15) e None (λ t. f (leb-true h 15 t)) (λ t. none-named)

kind-named : (k n : ℕ) (f : List ℕ) → Named (of_kind k n f)
kind-named k n f =
    let head = λ (e : ℕ → Event) (g : (h : ℕ) → h < 16 → Named (Some (e h))). of-one-head n f (λ h. Named (option_map e h)) none-named g in
    let line = λ (e : Delivery → Event) (g : (d : Delivery) → d.to < 16 → d.from < 16 → Named (Some (e d))). of-delivery n f (λ d. Named (option_map e d)) none-named g in
    cond-elim Named (eqb k 0x10) _ _ (λ t. if-named (eqb n 8) _ (if-named (starts (two (drop 1 f)) (byte_at 3 f)) _ (record { to = omega arith; from = omega arith })))
    (λ t. cond-elim Named (eqb k 0x11) _ _ (λ t. if-named (eqb n 14) _ (record { to = omega arith; from = omega arith }))
    (λ t. cond-elim Named (eqb k 0x12) _ _ (λ t. if-named (eqb n 12) _ (one-named (byte_at 1 f) _ (λ l. record { to = omega arith; from = omega arith })))
    (λ t. cond-elim Named (eqb k 0x13) _ _ (λ t. line (λ d. event.GiveState d) (λ d l m. record { to = l; from = m }))
    (λ t. cond-elim Named (eqb k 0x14) _ _ (λ t. head (λ h. event.Decide h) (λ h l. record { to = l; from = l }))
    (λ t. cond-elim Named (eqb k 0x15) _ _ (λ t. line (λ d. event.GiveAttempt d) (λ d l m. record { to = l; from = m }))
    (λ t. cond-elim Named (eqb k 0x16) _ _ (λ t. head (λ h. event.Form h) (λ h l. record { to = l; from = l }))
    (λ t. cond-elim Named (eqb k 0x17) _ _ (λ t. if-named (eqb n 8) _ (one-named (byte_at 1 f) _ (λ l. record { to = omega arith; from = omega arith })))
    (λ t. cond-elim Named (eqb k 0x18) _ _ (λ t. head (λ h. event.Recover h) (λ h l. record { to = l; from = l })) (λ t. none-named)))))))))

pub event-named : (l : List ℕ) → Named (event_in l)
event-named l = if-named (ltb (line_end l) (length l)) _ (if-named (every is_digit (line_of l) && leb 4 (length (line_of l))) _ (kind-named (byte_at 0 (unhex (line_of l))) (length (line_of l)) (unhex (line_of l))))

-- ---- the event of the first line

long-first : (s : List ℕ) → line_end s < length s → length (first_of s) ≡ suc (line_end s)
unfolding first_of
long-first s h = length-take-le (suc (line_end s)) s h

pub event-first : (s : List ℕ) → line_end s < length s → event_in (first_of s) ≡ event_of (take (line_end s) s)
unfolding line_of
event-first s h =
    let n : length (first_of s) ≡ suc (line_end s) = long-first s h in
    rw (lt-ltb (line_end (first_of s)) (length (first_of s)) (omega (arith, n, line-end-first s))) (ap event_of (line-of-first s))

pub no-event-first : (s : List ℕ) → length s ≤ line_end s → event_in (first_of s) ≡ None
unfolding first_of
no-event-first s h =
    let e : take (suc (line_end s)) s ≡ s = take_all (suc (line_end s)) s (omega arith) in
    rw (e, le-ltb (line_end s) (length s) h)

-- ---- what is left

pub length-left : (s : List ℕ) (w : World) → w.stop ≤ length s → length (left s w) ≡ w.stop - w.at
length-left s w h = length-take-le (w.stop - w.at) (drop w.at s) (omega (arith, length-drop w.at s))

-- ---- a view is announced only where there is room

pub announce-room : (e : Option Event) (g : Bool) (views : List ℕ) (a b : ℕ) → what_of e g views ≡ what.Announce a b → length views < 1000
unfolding enter_what
announce-room None g views a b e = absurd cc
announce-room (Some (event.GroupIs core least)) true views a b e = absurd cc
announce-room (Some (event.GroupIs core least)) false views a b e = absurd cc
announce-room (Some (event.ViewIs v m)) g views a b e = room_of g views v m a b e
announce-room (Some (event.Enter h v)) g views a b e = absurd (go (g && announced v views) e)
  where
    go : (t : Bool) → cond t (what.Enter v (members_of v views)) (what.Refuse 14) ≡ what.Announce a b → ⊥
    go true p = cc
    go false p = cc
announce-room (Some (event.GiveState d)) true views a b e = absurd cc
announce-room (Some (event.GiveState d)) false views a b e = absurd cc
announce-room (Some (event.Decide h)) true views a b e = absurd cc
announce-room (Some (event.Decide h)) false views a b e = absurd cc
announce-room (Some (event.GiveAttempt d)) true views a b e = absurd cc
announce-room (Some (event.GiveAttempt d)) false views a b e = absurd cc
announce-room (Some (event.Form h)) true views a b e = absurd cc
announce-room (Some (event.Form h)) false views a b e = absurd cc
announce-room (Some (event.Cut h k)) true views a b e = absurd cc
announce-room (Some (event.Cut h k)) false views a b e = absurd cc
announce-room (Some (event.Recover h)) true views a b e = absurd cc
announce-room (Some (event.Recover h)) false views a b e = absurd cc
