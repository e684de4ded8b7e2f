-- The theorem over texts: by the first group line, the table follows the history of the events; what holds of every history holds of what is printed.
use mathlib.Core.Bool.{Bool, true, false, cond, ◌||◌}
use mathlib.Core.List.{List, [], ◌∷◌, ◌++◌, append-nil}
use mathlib.Core.Logic.{inl, ⊎_elim}
use mathlib.Core.Path.{◌≡◌, refl, sym, ap, subst, ◌∙◌}
use Prim.Native.Nat.{ℕ, ◌≤◌}
use native.Mathlib.Decide.{ℕ_discrete}
use native.Mathlib.Omega.{arith}
use borrow.Author.Tests.{eq-eqb, ne_eqb}
use lib.Dec.{eqb}
use Rattle.std.specs.Prelude.{Option, Some}
use lib.ListN.{length}
use Rattle.loops.proofs.Laws.Truth.{passes-or-fails, not-both, or_right}
use Rattle.lines.specs.Walk.{lines_of}
use Rattle.history.specs.Setting.{Setting}
use Rattle.history.specs.Statement.{Event, empty}
use Rattle.history.proofs.Theorem.{one-count-listed-proved}
use Rattle.events.specs.declared.Event.{Event as Line}
use Rattle.events.specs.declared.Event.TheVariants as event
use Rattle.formed.specs.Formed.{insert, noted}
use Rattle.printing.specs.Texts.{closing}
use Rattle.worlds.specs.Bench.{Bench, opens, acts, obeyed, happens, taken, played, new_bench, bench}
use Rattle.asking.specs.Asking.{to_of, from_of, group_what, event_in}
use Rattle.printed.specs.Printed.{events_of, events_in, after, or_else, group_line, SettingOf, bench_after, OfHistory, Printed, formed_by, Room}
use Rattle.printed.proofs.Listed.{same-put, noted-none, formed-few, formed-fit}
use Rattle.printed.proofs.Follows.{Follows}
use Rattle.printed.proofs.Acts.{Roomy}
use Rattle.printed.proofs.Asked.{Sized, line-sized}
use Rattle.printed.proofs.Lines.{asked_in, views-few, after_both, On, event-room, lines-follow, Waits, new-waits, First, waits, opened, first, setting_of, group-on, group-room}

-- ---- lines with a group line

-- from bench b on, the lines are a history
record From (ls : List (List ℕ)) (b : Bench) : Type 0 where
  setting : Setting
  is : SettingOf ls (played ls b).views setting
  follows : Follows setting (played ls b).table (played ls b).formed (after setting (events_in ls b) (empty setting))

-- ---- a line before it

module _ (l : List ℕ) (ls : List (List ℕ)) (b : Bench) where
  from-later : events_of (event_in l) b ≡ [] → ((x : Option Line) → or_else (event_in l) x ≡ x) → From ls (taken l b) → From (l ∷ ls) b
  unfolding played events_in group_line
  from-later e f r = record {
    setting = r.setting;
    is = record { given = r.is.given; group = f (group_line ls) ∙ r.is.group; takes = r.is.takes; members = r.is.members };
    follows =
        subst (λ (es : List Event). Follows r.setting (played ls (taken l b)).table (played ls (taken l b)).formed (after r.setting es (empty r.setting)))
        (sym (ap (λ (es : List Event). es ++ events_in ls (taken l b)) e)) r.follows;
  }

  -- ---- the group line

  module _ (core least : ℕ) (e : event_in l ≡ Some (event.GroupIs core least)) (k : Waits b) (short : length (played (l ∷ ls) b).views ≤ 1000) where
    sized : Sized (Some (event.GroupIs core least))
    sized = subst Sized e (line-sized l)

    abbrev S : Setting
    S = setting_of core least sized.numbers.0 sized.numbers.1 (played (l ∷ ls) b).views

    from-here : From (l ∷ ls) b
    unfolding setting_of played events_in group_line taken
    from-here =
        let on = subst (λ (x : Option Line). On S (played (l ∷ ls) b).views (λ v. refl) short (happens x b) (after S (events_of x b) (empty S))) (sym e)
        (group-on S least refl (played (l ∷ ls) b).views (λ v. refl) short b k) in
        let o = lines-follow S (played (l ∷ ls) b).views (λ v. refl) short ls (taken l b) (after S (events_of (event_in l) b) (empty S)) refl on in
        record {
          setting = S;
          is = record { given = least; group = ap (λ (x : Option Line). or_else x (group_line ls)) e; takes = refl; members = λ v. refl };
          follows =
              subst (Follows S (played (l ∷ ls) b).table (played (l ∷ ls) b).formed) (sym (after_both S (events_of (event_in l) b) (events_in ls (taken l b)) (empty S))) o.follows;
        }

from-lines : (ls : List (List ℕ)) (b : Bench) → Waits b → (played ls b).grouped ≡ true → length (played ls b).views ≤ 1000 → From ls b
unfolding played taken
from-lines [] b k g s = absurd (not-both b.grouped g k.ungrouped)
from-lines (l ∷ ls) b k g s = go (λ w. from-lines ls (taken l b) w g s) (first b k (event_in l))
  where
    go : (Waits (taken l b) → From ls (taken l b)) → First (event_in l) b → From (l ∷ ls) b
    go next (waits w e f z) = from-later l ls b e f (next w)
    go next (opened core least e) = from-here l ls b core least e k s

-- ---- lines without one

grouped-stays : (ls : List (List ℕ)) (b : Bench) → b.grouped ≡ true → (played ls b).grouped ≡ true
unfolding played taken happens obeyed
grouped-stays [] b g = g
grouped-stays (l ∷ ls) b g = grouped-stays ls (taken l b) (or_right (opens (asked_in (event_in l) b)) b.grouped g)

group-grouped : (core least : ℕ) (b : Bench) → Waits b → (happens (Some (event.GroupIs core least)) b).grouped ≡ true
unfolding happens obeyed
group-grouped core least b k = ap (λ (g : Bool). opens (group_what g core least) || g) k.ungrouped

waits-on : (ls : List (List ℕ)) (b : Bench) → Waits b → (played ls b).grouped ≡ false → Waits (played ls b)
unfolding played taken
waits-on [] b k g = k
waits-on (l ∷ ls) b k g = go (λ w. waits-on ls (taken l b) w g) (first b k (event_in l))
  where
    go : (Waits (taken l b) → Waits (played ls (taken l b))) → First (event_in l) b → Waits (played ls (taken l b))
    go next (waits w e f z) = next w
    go next (opened core least e) =
        absurd (not-both _ (grouped-stays ls (taken l b) (subst (λ (x : Option Line). (happens x b).grouped ≡ true) (sym e) (group-grouped core least b k))) g)

-- ---- THE THEOREM

new-short : length new_bench.views ≤ 1000
unfolding new_bench
new-short = omega arith

from-new : (ls : List (List ℕ)) → (played ls new_bench).grouped ≡ true → From ls new_bench
from-new ls g = from-lines ls new_bench new-waits g (views-few ls new_bench new-short)

of-history : (s : List ℕ) → From (lines_of s) new_bench → OfHistory s
unfolding bench
of-history s r = record {
  setting = r.setting;
  is = r.is;
  history = r.follows.history;
  heads = r.follows.heads;
  listed = r.follows.listed;
  prints = ap (λ (L : List ℕ). (bench_after s).text ++ closing L) r.follows.listed;
  ordered = one-count-listed-proved r.setting _ r.follows.history;
  few = rw r.follows.listed (formed-few r.setting (bench_after s).views r.is.members _ r.follows.history);
  fits = rw r.follows.listed (formed-fit r.setting (bench_after s).views r.is.members (views-few (lines_of s) new_bench new-short) _ r.follows.history);
}

pub printed : (s : List ℕ) → Printed s
printed s = record {
  grouped = λ g. of-history s (from-new (lines_of s) g);
  ungrouped = λ g. (waits-on (lines_of s) new_bench new-waits g).formed;
}

-- ---- room

roomy-is : (w : ℕ) (L : List ℕ) → Roomy w L → noted w L ≡ cond (eqb w 0) L (insert w L)
roomy-is w L r = go (ℕ_discrete w 0)
  where
    go : Dec (w ≡ 0) → noted w L ≡ cond (eqb w 0) L (insert w L)
    go (yes z) = ap (λ (x : ℕ). noted x L) z ∙ noted-none L ∙ sym (ap (λ (c : Bool). cond c L (insert w L)) (eq-eqb w 0 z))
    go (no n) = ⊎_elim (λ z. absurd (n z)) (λ q. q ∙ sym (same-put w L)) r ∙ sym (ap (λ (c : Bool). cond c L (insert w L)) (ne_eqb w 0 n))

module _ (ls : List (List ℕ)) (l : List ℕ) where
  abbrev b : Bench
  b = played ls new_bench

  abbrev e : Option Line
  e = event_in l

  grouped-room : From ls new_bench → b.grouped ≡ true → Roomy (acts (to_of e) (from_of e) (asked_in e b) b).formed b.formed
  grouped-room r g =
      event-room r.setting b.views r.is.members (views-few ls new_bench new-short) b _ (record { grouped = g; follows = r.follows }) e (line-sized l) [] (sym (append-nil b.views))

  waiting-room : First e b → Waits b → Roomy (acts (to_of e) (from_of e) (asked_in e b) b).formed b.formed
  waiting-room (waits w ev f z) k = inl z
  waiting-room (opened core least q) k = subst (λ (x : Option Line). Roomy (acts (to_of x) (from_of x) (asked_in x b) b).formed b.formed) (sym q) (group-room core least b k)

  pub always-room : Room ls l
  unfolding formed_by
  always-room =
      roomy-is _ b.formed
      (⊎_elim (λ g. grouped-room (from-new ls g) g) (λ g. let k = waits-on ls new_bench new-waits g in waiting-room (first b k e) k) (passes-or-fails b.grouped))
