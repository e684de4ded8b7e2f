-- One step of the bench, from what its three calls give: a head that is started leaves the bench that the lists stand for as it was, since that head counted as
-- started; otherwise the next line is taken, field by field. Then a turn, from a step.
use mathlib.Core.Bool.{Bool, true, false, cond, ◌||◌}
use mathlib.Core.List.{List, [], ◌++◌, append-nil}
use mathlib.Core.Logic.{⊎_elim}
use mathlib.Core.Path.{◌≡◌, refl, sym, ap, ap₂, ◌∙◌}
use Prim.Native.Nat.{ℕ, zero, suc, ◌+◌, ◌-◌, ◌≤◌, ◌<◌}
use native.Mathlib.Numerals.{add-one}
use native.Mathlib.Omega.{arith}
use borrow.Author.Tests.{lt-ltb, le-ltb}
use lib.Dec.{ltb}
use Rattle.std.specs.Prelude.{Option}
use lib.ListN.{length, take, set, length-set}
use lib.Seq.{length-take-le, take-suc-set}
use Rattle.loops.proofs.Laws.Order.{lt-or-ge}
use Rattle.group.specs.Words.{session}
use Rattle.lines.specs.Hex.{line_end}
use Rattle.lines.specs.Walk.{whole_lines, begun}
use Rattle.events.specs.declared.Event.{Event}
use Rattle.deeds.specs.declared.Deed.{Deed}
use Rattle.deeds.specs.declared.What.{What}
use Rattle.deeds.specs.declared.What.TheVariants as what
use Rattle.deeds.specs.Told.{Told, told}
use Rattle.formed.specs.Formed.{noted}
use Rattle.views.specs.Views.{listed}
use Rattle.printing.specs.Texts.{told_text}
use Rattle.asking.specs.declared.World.{World}
use Rattle.asking.specs.declared.Order.{Order}
use Rattle.asking.specs.Asking.{to_of, from_of, what_of, event_in, left, start_order, order_for, line_now, next_now, order_of}
use Rattle.asking.proofs.Laws.{announce-room, event-named}
use Rattle.noting.specs.Noting.{kept_by, onward, one_started, Noted}
use Rattle.seat.specs.declared.Seat.{Seat}
use Rattle.seat.specs.Played.{Played, starts, played_by}
use Rattle.worlds.specs.Bench.{Bench, seat_at, start_last, opens, all_started, new_views, acts, obeyed, happens, taken, played}
use Rattle.worlds.specs.Desk.{bench_of, bench_as_started, none_left, Ready, Stepped, Turned}
use Rattle.worlds.proofs.Laws.Line.{has-line, played-first, ends_next}

-- ---- what the bench itself keeps, field by field

kept-grouped : (a : What) (x : World) → (kept_by a x).grouped ≡ (opens a || x.grouped)
kept-grouped (what.Refuse n) x = refl
kept-grouped (what.Announce v m) x = refl
kept-grouped (what.Open core least) x = refl
kept-grouped (what.Start core least) x = refl
kept-grouped (what.Enter view m) x = refl
kept-grouped (what.HearState k) x = refl
kept-grouped (what.HearAttempt k) x = refl
kept-grouped what.Decide x = refl
kept-grouped what.Form x = refl
kept-grouped what.Recover x = refl
kept-grouped (what.Arm k) x = refl

abbrev AsStarted : World → List Seat → List Seat
AsStarted x t = start_last x.core x.least x.starting t

kept_table : (a : What) (w : World) (next put formed : ℕ) (t : List Seat) → AsStarted (kept_by a (onward w next put formed)) t ≡ all_started a t
unfolding start_last
kept_table (what.Refuse n) w next put formed t = refl
kept_table (what.Announce v m) w next put formed t = refl
kept_table (what.Open core least) w next put formed t = refl
kept_table (what.Start core least) w next put formed t = refl
kept_table (what.Enter view m) w next put formed t = refl
kept_table (what.HearState k) w next put formed t = refl
kept_table (what.HearAttempt k) w next put formed t = refl
kept_table what.Decide w next put formed t = refl
kept_table what.Form w next put formed t = refl
kept_table what.Recover w next put formed t = refl
kept_table (what.Arm k) w next put formed t = refl

same-views : (n : ℕ) (views : List ℕ) → take n views ≡ take n views ++ []
same-views n views = sym (append-nil (take n views))

kept-views : (a : What) (x : World) (views : List ℕ) → ((v m : ℕ) → a ≡ what.Announce v m → x.views < length views)
    → take (kept_by a x).views (listed x.views a views) ≡ take x.views views ++ new_views a
kept-views (what.Refuse n) x views h = same-views x.views views
kept-views (what.Announce v m) x views h =
    let l = h v m refl in
    rw (lt-ltb x.views (length views) l) (ap (λ (k : ℕ). take k (set views x.views (session v m))) (add-one x.views) ∙ take-suc-set views x.views (session v m) l)
kept-views (what.Open core least) x views h = same-views x.views views
kept-views (what.Start core least) x views h = same-views x.views views
kept-views (what.Enter view m) x views h = same-views x.views views
kept-views (what.HearState k) x views h = same-views x.views views
kept-views (what.HearAttempt k) x views h = same-views x.views views
kept-views what.Decide x views h = same-views x.views views
kept-views what.Form x views h = same-views x.views views
kept-views what.Recover x views h = same-views x.views views
kept-views (what.Arm k) x views h = same-views x.views views

-- the rest of the world is as it was
record Rest (x y : World) : Type 0 where
  at : y.at ≡ x.at
  stop : y.stop ≡ x.stop
  end : y.end ≡ x.end
  turns : y.turns ≡ x.turns
  starting : y.starting ≤ 16

kept-rest : (a : What) (x : World) → x.starting ≤ 16 → Rest x (kept_by a x)
kept-rest (what.Refuse n) x h = record { at = refl; stop = refl; end = refl; turns = refl; starting = h }
kept-rest (what.Announce v m) x h = record { at = refl; stop = refl; end = refl; turns = refl; starting = h }
kept-rest (what.Open core least) x h = record { at = refl; stop = refl; end = refl; turns = refl; starting = omega arith }
kept-rest (what.Start core least) x h = record { at = refl; stop = refl; end = refl; turns = refl; starting = h }
kept-rest (what.Enter view m) x h = record { at = refl; stop = refl; end = refl; turns = refl; starting = h }
kept-rest (what.HearState k) x h = record { at = refl; stop = refl; end = refl; turns = refl; starting = h }
kept-rest (what.HearAttempt k) x h = record { at = refl; stop = refl; end = refl; turns = refl; starting = h }
kept-rest what.Decide x h = record { at = refl; stop = refl; end = refl; turns = refl; starting = h }
kept-rest what.Form x h = record { at = refl; stop = refl; end = refl; turns = refl; starting = h }
kept-rest what.Recover x h = record { at = refl; stop = refl; end = refl; turns = refl; starting = h }
kept-rest (what.Arm k) x h = record { at = refl; stop = refl; end = refl; turns = refl; starting = h }

-- the views in use stay within the room
kept-room : (a : What) (x : World) → x.views ≤ 1000 → ((v m : ℕ) → a ≡ what.Announce v m → x.views < 1000) → (kept_by a x).views ≤ 1000
kept-room (what.Refuse n) x h f = h
kept-room (what.Announce v m) x h f = omega (arith, f v m refl)
kept-room (what.Open core least) x h f = h
kept-room (what.Start core least) x h f = h
kept-room (what.Enter view m) x h f = h
kept-room (what.HearState k) x h f = h
kept-room (what.HearAttempt k) x h f = h
kept-room what.Decide x h f = h
kept-room what.Form x h f = h
kept-room what.Recover x h f = h
kept-room (what.Arm k) x h f = h

listed-long : (n : ℕ) (a : What) (views : List ℕ) → length (listed n a views) ≡ length views
listed-long n (what.Refuse k) views = refl
listed-long n (what.Announce v m) views = go (ltb n (length views))
  where
    go : (b : Bool) → length (cond b (set views n (session v m)) views) ≡ length views
    go true = length-set views n (session v m)
    go false = refl
listed-long n (what.Open core least) views = refl
listed-long n (what.Start core least) views = refl
listed-long n (what.Enter view m) views = refl
listed-long n (what.HearState k) views = refl
listed-long n (what.HearAttempt k) views = refl
listed-long n what.Decide views = refl
listed-long n what.Form views = refl
listed-long n what.Recover views = refl
listed-long n (what.Arm k) views = refl

-- one head started of the last n
start-next : (n core least : ℕ) (t : List Seat) → 0 < n
    → start_last core least (n - 1) (set t (16 - n) (starts (seat_at t (16 - n)) (16 - n) core least).seat) ≡ start_last core least n t
unfolding start_last
start-next zero core least t pos = absurd (omega arith)
start-next (suc n) core least t pos =
    let e : suc n - 1 ≡ n = omega arith in
    let f : 16 - suc n ≡ 15 - n = omega arith in
    rw (e, f)

-- head p started, and then those after it
pub start-one : (p core least : ℕ) (t : List Seat) → p < 16
    → start_last core least (16 - (p + 1)) (set t p (starts (seat_at t p) p core least).seat) ≡ start_last core least (16 - p) t
start-one p core least t lt =
    let e : 16 - (p + 1) ≡ 16 - p - 1 = omega arith in
    let f : p ≡ 16 - (16 - p) = omega arith in
    ap₂ (λ (n k : ℕ). start_last core least n (set t k (starts (seat_at t k) k core least).seat)) e f ∙ start-next (16 - p) core least t (omega arith)

pub start-none : (p core least : ℕ) (t : List Seat) → 16 ≤ p → start_last core least (16 - p) t ≡ t
unfolding start_last
start-none p core least t over = let e : 16 - p ≡ 0 = omega arith in rw e

-- ---- a step

module _ (s : List ℕ) (t : List Seat) (views formed out : List ℕ) (w : World) where
  abbrev pub order : Order
  order = order_of (take w.views views) s w

  abbrev pub played_as : Order → Played
  played_as z = played_by z.to (seat_at t z.to) (seat_at t z.from) z.what

  -- what the three calls of a step give
  pub record Step (t' : List Seat) (views' formed' out' : List ℕ) (d : Deed) (r : World) : Type 0 where
    pub table : t' ≡ set t order.to (played_as order).seat
    pub reply : told d.reply ≡ (played_as order).reply
    pub session : d.formed ≡ (played_as order).formed
    pub views-is : views' ≡ listed w.views order.what views
    pub noted-is : Noted w order d formed out formed' out' r
    pub formed-long : length formed' ≡ length formed
    pub out-long : length out' ≡ length out

  -- a head that the group line has yet to start
  module _ (ready : Ready t views formed s out w) (pos : 0 < w.starting) where
    yes : ltb 0 w.starting ≡ true
    yes = lt-ltb 0 w.starting pos

    start-order : order ≡ start_order w
    start-order = rw yes

    module _ {t' : List Seat} {views' formed' out' : List ℕ} {d : Deed} {r : World} (st : Step t' views' formed' out' d r) where
      world_is : r ≡ one_started w
      world_is = st.noted-is.world ∙ rw yes

      formed-is : take r.formed formed' ≡ take w.formed formed
      formed-is = st.noted-is.formed-is ∙ rw yes

      text-is : take r.put out' ≡ take w.put out
      text-is = st.noted-is.text-is ∙ rw yes

      views-are : views' ≡ views
      views-are = st.views-is ∙ ap (λ (z : Order). listed w.views z.what views) start-order

      table_is : t' ≡ set t (16 - w.starting) (starts (seat_at t (16 - w.starting)) (16 - w.starting) w.core w.least).seat
      table_is = st.table ∙ ap (λ (z : Order). set t z.to (played_as z).seat) start-order

      heads-are : AsStarted r t' ≡ AsStarted w t
      heads-are = ap₂ AsStarted world_is table_is ∙ start-next w.starting w.core w.least t pos

      bench-same : bench_as_started t' views' formed' out' r ≡ bench_as_started t views formed out w
      bench-same = λ i. record {
        grouped = (world_is i).grouped;
        table = heads-are i;
        views = (ap (λ (x : World). take x.views views') world_is ∙ ap (take w.views) views-are) i;
        formed = formed-is i;
        text = text-is i;
      }

      at-is : (r.at ≡ w.at) × (r.stop ≡ w.stop) × (r.end ≡ w.end) × (r.turns ≡ w.turns) × (r.starting ≡ w.starting - 1) × (r.put ≡ w.put) × (r.views ≡ w.views)
      at-is = (
        ap (λ (x : World). x.at) world_is,
        ap (λ (x : World). x.stop) world_is,
        ap (λ (x : World). x.end) world_is,
        ap (λ (x : World). x.turns) world_is,
        ap (λ (x : World). x.starting) world_is,
        ap (λ (x : World). x.put) world_is,
        ap (λ (x : World). x.views) world_is,
      )

      left-same : left s r ≡ left s w
      left-same = rw (at-is.0, at-is.1)

      start-ready : Ready t' views' formed' s out' r
      start-ready = record {
        heads = ap length st.table ∙ length-set t _ _ ∙ ready.heads;
        views-room = ap length views-are ∙ ready.views-room;
        views-in = omega (arith, at-is.6, ready.views-in);
        formed-room = st.formed-long ∙ ready.formed-room;
        formed-in = st.noted-is.formed-in;
        starting = omega (arith, at-is.4, ready.starting);
        within = omega (arith, at-is.1, ready.within);
        ends = ap (λ (x : List ℕ). begun [] x) left-same ∙ ready.ends;
        room = omega (arith, at-is.0, at-is.1, at-is.5, ready.room, st.out-long);
      }

      start-stepped : Stepped s w (bench_as_started t views formed out w) (bench_as_started t' views' formed' out' r) r
      start-stepped = record {
        bench = rw yes bench-same;
        rest = ap₂ (λ (x : List ℕ) (b : Bench). played (whole_lines [] x) b) left-same bench-same;
        nearer = omega (arith, at-is.0, at-is.1, at-is.4, pos);
        part = record { stop = at-is.1; end = at-is.2; turns = at-is.3 };
      }

  -- the next line is taken
  module _ (ready : Ready t views formed s out w) (more : w.at < w.stop) (none : w.starting ≡ 0) where
    no : ltb 0 w.starting ≡ false
    no = le-ltb 0 w.starting (omega (arith, none))

    abbrev e : Option Event
    e = event_in (line_now s w)

    abbrev a : What
    a = what_of e w.grouped (take w.views views)

    line-order : order ≡ order_for e w.grouped (take w.views views) (next_now s w)
    line-order = rw no

    as-they-are : AsStarted w t ≡ t
    unfolding start_last
    as-they-are = rw none

    announces : (v m : ℕ) → a ≡ what.Announce v m → w.views < 1000
    announces v m p = omega (arith, announce-room e w.grouped (take w.views views) v m p, length-take-le w.views views (omega (arith, ready.views-in, ready.views-room)))

    module _ {t' : List Seat} {views' formed' out' : List ℕ} {d : Deed} {r : World} (st : Step t' views' formed' out' d r) where
      abbrev x : World
      x = onward w (next_now s w) r.put r.formed

      line-world : r ≡ kept_by a x
      line-world = st.noted-is.world ∙ rw no

      line-table : t' ≡ set t (to_of e) (played_by (to_of e) (seat_at t (to_of e)) (seat_at t (from_of e)) a).seat
      line-table = st.table ∙ ap (λ (z : Order). set t z.to (played_as z).seat) line-order

      line-views : views' ≡ listed w.views a views
      line-views = st.views-is ∙ ap (λ (z : Order). listed w.views z.what views) line-order

      line-formed : take r.formed formed' ≡ noted (played_by (to_of e) (seat_at t (to_of e)) (seat_at t (from_of e)) a).formed (take w.formed formed)
      line-formed = st.noted-is.formed-is ∙ rw no (ap (λ (k : ℕ). noted k (take w.formed formed)) (st.session ∙ ap (λ (z : Order). (played_as z).formed) line-order))

      line-text : take r.put out' ≡ take w.put out ++ told_text (played_by (to_of e) (seat_at t (to_of e)) (seat_at t (from_of e)) a).reply
      line-text = st.noted-is.text-is ∙ rw no (ap (λ (k : Told). take w.put out ++ told_text k) (st.reply ∙ ap (λ (z : Order). (played_as z).reply) line-order))

      -- the bench before it has the heads as they are
      acts-is : played_by (to_of e) (seat_at t (to_of e)) (seat_at t (from_of e)) a ≡ acts (to_of e) (from_of e) a (bench_as_started t views formed out w)
      unfolding acts
      acts-is = ap (λ (z : List Seat). played_by (to_of e) (seat_at z (to_of e)) (seat_at z (from_of e)) a) (sym as-they-are)

      grouped-is : r.grouped ≡ (opens a || w.grouped)
      grouped-is = ap (λ (z : World). z.grouped) line-world ∙ kept-grouped a x

      heads-is : AsStarted r t' ≡ all_started a (set (AsStarted w t) (to_of e) (acts (to_of e) (from_of e) a (bench_as_started t views formed out w)).seat)
      heads-is =
          ap₂ AsStarted line-world line-table
          ∙ kept_table a w (next_now s w) r.put r.formed _
          ∙ ap₂ (λ (y : List Seat) (z : Played). all_started a (set y (to_of e) z.seat)) (sym as-they-are) acts-is

      views-is : take r.views views' ≡ take w.views views ++ new_views a
      views-is =
          ap₂ (λ (y : World) (z : List ℕ). take y.views z) line-world line-views
          ∙ kept-views a x views (λ v m p. omega (arith, announces v m p, ready.views-room))

      line-bench : bench_as_started t' views' formed' out' r ≡ taken (line_now s w) (bench_as_started t views formed out w)
      unfolding taken happens obeyed
      line-bench = λ i. record {
        grouped = grouped-is i;
        table = heads-is i;
        views = views-is i;
        formed = (line-formed ∙ ap (λ (z : Played). noted z.formed (take w.formed formed)) acts-is) i;
        text = (line-text ∙ ap (λ (z : Played). take w.put out ++ told_text z.reply) acts-is) i;
      }

      rest-is : Rest x (kept_by a x)
      rest-is = kept-rest a x (omega arith)

      line_at : (r.at ≡ next_now s w) × (r.stop ≡ w.stop) × (r.end ≡ w.end) × (r.turns ≡ w.turns)
      line_at = (
        ap (λ (z : World). z.at) line-world ∙ rest-is.at,
        ap (λ (z : World). z.stop) line-world ∙ rest-is.stop,
        ap (λ (z : World). z.end) line-world ∙ rest-is.end,
        ap (λ (z : World). z.turns) line-world ∙ rest-is.turns,
      )

      has : line_end (left s w) < length (left s w)
      has = has-line s w ready.within more ready.ends

      -- the next line begins later
      later : w.at < r.at
      later = omega (arith, line_at.0)

      few : r.starting ≤ 16
      few = omega (arith, ap (λ (z : World). z.starting) line-world, rest-is.starting)

      line-ready : Ready t' views' formed' s out' r
      line-ready = record {
        heads = ap length st.table ∙ length-set t _ _ ∙ ready.heads;
        views-room = ap length line-views ∙ listed-long w.views a views ∙ ready.views-room;
        views-in = omega (arith, ap (λ (z : World). z.views) line-world, kept-room a x ready.views-in announces);
        formed-room = st.formed-long ∙ ready.formed-room;
        formed-in = st.noted-is.formed-in;
        starting = few;
        within = omega (arith, line_at.1, ready.within);
        ends = ends_next s w r has line_at.1 line_at.0 ready.ends;
        room = omega (arith, later, line_at.1, st.noted-is.put_in, ready.room, st.out-long, more);
      }

      line-stepped : Stepped s w (bench_as_started t views formed out w) (bench_as_started t' views' formed' out' r) r
      line-stepped = record {
        bench = rw no line-bench;
        rest = ap (played (whole_lines [] (left s r))) line-bench ∙ played-first s w r (bench_as_started t views formed out w) has line_at.1 line_at.0;
        nearer = omega (arith, later, line_at.1, few, none, more);
        part = record { stop = line_at.1; end = line_at.2; turns = line_at.3 };
      }

  -- both together
  pub stepped : {t' : List Seat} {views' formed' out' : List ℕ} {d : Deed} {r : World} → Ready t views formed s out w → w.at < w.stop → Step t' views' formed' out' d r
      → Ready t' views' formed' s out' r × Stepped s w (bench_as_started t views formed out w) (bench_as_started t' views' formed' out' r) r
  stepped ready more st =
      ⊎_elim (λ pos. (start-ready ready pos st, start-stepped ready pos st)) (λ none. (line-ready ready more (omega arith) st, line-stepped ready more (omega arith) st)) (lt-or-ge 0 w.starting)

  -- which heads act
  pub order-heads : (order.to < 16) × (order.from < 16)
  order-heads =
      ⊎_elim (λ pos. let y = lt-ltb 0 w.starting pos in (rw y (omega arith), rw y (omega arith)))
      (λ none. let n = le-ltb 0 w.starting none in (rw n (event-named (line_now s w)).to, rw n (event-named (line_now s w)).from)) (lt-or-ge 0 w.starting)

-- ---- a turn: a step from a world with no head left to start, and then the heads started that it leaves

-- it takes a line; the heads that it leaves counted as started
pub as-turned : (s : List ℕ) (w r : World) (b b' : Bench) → Stepped s (none_left w) b b' r → Turned s w b b' (none_left r)
as-turned s w r b b' st = record {
  bench = st.bench;
  rest = st.rest;
  nearer = omega (arith, st.nearer);
  part = record { stop = st.part.stop; end = st.part.end; turns = st.part.turns };
}

last-long : (core least n : ℕ) (t : List Seat) → length (start_last core least n t) ≡ length t
unfolding start_last
last-long core least zero t = refl
last-long core least (suc n) t = last-long core least n _ ∙ length-set t _ _

-- what the calls of such a step give, with the heads started that it leaves, is a turn; what w itself has left to start plays no part
pub turned : (s : List ℕ) (t : List Seat) (views formed out : List ℕ) (w : World) {t' : List Seat} {views' formed' out' : List ℕ} {d : Deed} {r : World}
    → Ready t views formed s out (none_left w) → w.at < w.stop → Step s t views formed out (none_left w) t' views' formed' out' d r
    → Ready (start_last r.core r.least r.starting t') views' formed' s out' (none_left r)
    × Turned s w (bench_of t views formed out w) (bench_of (start_last r.core r.least r.starting t') views' formed' out' (none_left r)) (none_left r)
unfolding start_last
turned s t views formed out w {t'} {views'} {formed'} {out'} {d} {r} ready more st =
    let e = stepped s t views formed out (none_left w) ready more st in
    let k = e.0 in (
      record {
        heads = last-long r.core r.least r.starting t' ∙ k.heads;
        views-room = k.views-room;
        views-in = k.views-in;
        formed-room = k.formed-room;
        formed-in = k.formed-in;
        starting = omega arith;
        within = k.within;
        ends = k.ends;
        room = k.room;
      },
      as-turned s w r _ _ e.1,
    )

-- ---- a whole part

-- nothing is left where the next line would begin past the last
nothing_left : (s : List ℕ) (w : World) → w.stop ≤ length s → w.stop ≤ w.at → left s w ≡ []
nothing_left s w h over = let e : w.stop - w.at ≡ 0 = omega arith in rw e

pub over : (s : List ℕ) (w : World) (b : Bench) → w.stop ≤ length s → w.stop ≤ w.at → played (whole_lines [] (left s w)) b ≡ b
unfolding whole_lines played
over s w b h past = ap (λ (x : List ℕ). played (whole_lines [] x) b) (nothing_left s w h past)
