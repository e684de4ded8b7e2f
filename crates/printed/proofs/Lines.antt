-- Line after line: until a group line is taken nothing happens; from then on the table follows the history of the events, in the setting that has all views of the text.
use mathlib.Core.Bool.{Bool, true, false}
use mathlib.Core.List.{List, [], ◌∷◌, ◌++◌, append-nil, append_assoc}
use mathlib.Core.Logic.{inl, inr, ⊎_elim}
use mathlib.Core.Path.{◌≡◌, refl, sym, ap, subst, ◌∙◌}
use Prim.Native.Nat.{ℕ, ◌≤◌, ◌<◌}
use native.Mathlib.Omega.{arith}
use borrow.Author.Tests.{eqb-true, eqb-false}
use lib.Dec.{leb, eqb}
use Rattle.std.specs.Prelude.{Option, Some, None}
use lib.ListN.{length, replicate}
use lib.Seq.{set-get_or}
use Rattle.loops.proofs.Laws.Truth.{or_right, and_right, passes-or-fails}
use Rattle.group.specs.Quorum.{is_group}
use Rattle.record.specs.Start.{can_start, taken_least}
use Rattle.history.specs.Setting.{Setting}
use Rattle.history.specs.Statement.{World, Event, empty, step, insert as put}
use Rattle.history.proofs.Abstraction.{group_in}
use Rattle.history.proofs.Invariant.{reading}
use Rattle.history.proofs.Calls.Start.{core-some}
use Rattle.events.specs.declared.Event.{Event as Line}
use Rattle.events.specs.declared.Event.TheVariants as event
use Rattle.events.specs.Events.{starts}
use Rattle.seat.specs.declared.Seat.{Seat}
use Rattle.deeds.specs.declared.What.{What}
use Rattle.deeds.specs.declared.What.TheVariants as what
use Rattle.seat.specs.Seat.{empty_seat}
use Rattle.views.specs.Views.{members_of, view_what, enter_what}
use Rattle.formed.specs.Formed.{noted}
use Rattle.worlds.specs.Bench.{Bench, seat_at, start_last, opens, all_started, new_views, acts, obeyed, happens, taken, played, new_bench}
use Rattle.asking.specs.Asking.{to_of, from_of, group_what, what_of, event_in}
use Rattle.printed.specs.Printed.{starting, events_by, events_of, events_in, after, or_else}
use Rattle.printed.proofs.Listed.{noted-none, noted-put, formed-fit}
use Rattle.printed.proofs.Follows.{Follows}
use Rattle.printed.proofs.Acts.{Allowed, Roomy, acts-follow, acts-room}
use Rattle.printed.proofs.Starts.{group-follows}
use Rattle.printed.proofs.Asked.{Sized, line-sized, to-small, from-small, asked-allowed, asked-few}

-- ---- the views of a text

-- what event e asks of bench b
abbrev pub asked_in : Option Line → Bench → What
asked_in e b = what_of e b.grouped b.views

views-are : (e : Option Line) (b : Bench) → (happens e b).views ≡ b.views ++ new_views (asked_in e b)
unfolding happens obeyed
views-are e b = refl

pub views-grow : (ls : List (List ℕ)) (b : Bench) → (more : List ℕ) × ((played ls b).views ≡ b.views ++ more)
unfolding played taken
views-grow [] b = ([], sym (append-nil b.views))
views-grow (l ∷ ls) b =
    let (more, e) = views-grow ls (taken l b) in
    (new_views (asked_in (event_in l) b) ++ more, e ∙ ap (λ (x : List ℕ). x ++ more) (views-are (event_in l) b) ∙ append_assoc b.views (new_views (asked_in (event_in l) b)) more)

pub views-few : (ls : List (List ℕ)) (b : Bench) → length b.views ≤ 1000 → length (played ls b).views ≤ 1000
unfolding played taken
views-few [] b h = h
views-few (l ∷ ls) b h = views-few ls (taken l b) (rw (views-are (event_in l) b) (asked-few b.views h (event_in l) b.grouped))

-- ---- after the group line

none-started : (S : Setting) (w : What) → Allowed S w → (t : List Seat) → all_started w t ≡ t
none-started S (what.Refuse n) a t = refl
none-started S (what.Announce v m) a t = refl
none-started S (what.Open core least) a t = absurd a
none-started S (what.Start core least) a t = absurd a
none-started S (what.Enter v m) a t = refl
none-started S (what.HearState which) a t = refl
none-started S (what.HearAttempt which) a t = refl
none-started S what.Decide a t = refl
none-started S what.Form a t = refl
none-started S what.Recover a t = refl
none-started S (what.Arm k) a t = refl

pub after_both : (S : Setting) (xs ys : List Event) (W : World) → after S (xs ++ ys) W ≡ after S ys (after S xs W)
unfolding after
after_both S [] ys W = refl
after_both S (e ∷ xs) ys W = after_both S xs ys (step S e W)

module _ (S : Setting) (views : List ℕ) (is : (v : ℕ) → S.members v ≡ members_of v views) (short : length views ≤ 1000) where
  -- bench b, whose views so far are among these, has a group and follows W
  pub record On (b : Bench) (W : World) : Type 0 where
    pub grouped : b.grouped ≡ true
    pub follows : Follows S b.table b.formed W

  module _ (b : Bench) (W : World) (o : On b W) (e : Option Line) (sized : Sized e) (more : List ℕ) (all : views ≡ b.views ++ more) where
    allowed : Allowed S (asked_in e b)
    allowed =
        subst (λ (g : Bool). Allowed S (what_of e g b.views)) (sym o.grouped)
        (asked-allowed S b.views more (λ v. is v ∙ ap (members_of v) all) e sized)

    pub event-follows : On (happens e b) (after S (events_of e b) W)
    unfolding happens obeyed acts events_of
    event-follows = record {
      grouped = or_right (opens (asked_in e b)) b.grouped o.grouped;
      follows =
          subst (λ (t : List Seat). Follows S t (happens e b).formed (after S (events_of e b) W)) (sym (none-started S (asked_in e b) allowed _))
          (acts-follow S (formed-fit S views is short) b.table b.formed W o.follows (to_of e) (from_of e) (to-small e sized) (from-small e sized) (asked_in e b) allowed);
    }

    pub event-room : Roomy (acts (to_of e) (from_of e) (asked_in e b) b).formed b.formed
    unfolding acts
    event-room = acts-room S (formed-fit S views is short) b.table b.formed W o.follows (to_of e) (from_of e) (to-small e sized) (from-small e sized) (asked_in e b) allowed

  pub lines-follow : (ls : List (List ℕ)) (b : Bench) (W : World) → views ≡ (played ls b).views → On b W → On (played ls b) (after S (events_in ls b) W)
  unfolding played events_in after taken
  lines-follow [] b W e o = o
  lines-follow (l ∷ ls) b W e o =
      let (more, g) = views-grow (l ∷ ls) b in
      let o' = event-follows b W o (event_in l) (line-sized l) more (e ∙ g) in
      subst (On (played ls (taken l b))) (sym (after_both S (events_of (event_in l) b) (events_in ls (taken l b)) W)) (lines-follow ls (taken l b) (after S (events_of (event_in l) b) W) e o')

-- ---- before it

pub record Waits (b : Bench) : Type 0 where
  pub ungrouped : b.grouped ≡ false
  pub table : b.table ≡ replicate 16 empty_seat
  pub views : b.views ≡ []
  pub formed : b.formed ≡ []

pub new-waits : Waits new_bench
unfolding new_bench
new-waits = record { ungrouped = refl; table = refl; views = refl; formed = refl }

refused-waits : (to from n : ℕ) (b : Bench) → Waits b → Waits (obeyed to from (what.Refuse n) b)
unfolding obeyed acts
refused-waits to from n b k = record {
  ungrouped = k.ungrouped;
  table = set-get_or b.table to _ ∙ k.table;
  views = append-nil b.views ∙ k.views;
  formed = noted-none b.formed ∙ k.formed;
}

refused_none : (to from n : ℕ) (b : Bench) → (acts to from (what.Refuse n) b).formed ≡ 0
unfolding acts
refused_none to from n b = refl

-- the first line: it is the group line, or nothing comes of it
pub data First (e : Option Line) (b : Bench) : Type 0 where
  waits : Waits (happens e b) → events_of e b ≡ [] → ((x : Option Line) → or_else e x ≡ x) → (acts (to_of e) (from_of e) (asked_in e b) b).formed ≡ 0 → First e b
  opened : (core least : ℕ) → e ≡ Some (event.GroupIs core least) → First e b

module _ (b : Bench) (k : Waits b) where
  refused-first : (e : Option Line) (n : ℕ) → ((x : Option Line) → or_else e x ≡ x) → what_of e false b.views ≡ what.Refuse n → First e b
  unfolding happens events_of
  refused-first e n f q =
      let asked : asked_in e b ≡ what.Refuse n = ap (λ (g : Bool). what_of e g b.views) k.ungrouped ∙ q in
      waits (subst (λ (w : What). Waits (obeyed (to_of e) (from_of e) w b)) (sym asked) (refused-waits (to_of e) (from_of e) n b k))
      (ap (λ (w : What). events_by (to_of e) (seat_at b.table (to_of e)) (seat_at b.table (from_of e)) w) asked) f
      (ap (λ (w : What). (acts (to_of e) (from_of e) w b).formed) asked ∙ refused_none (to_of e) (from_of e) n b)

  pub first : (e : Option Line) → First e b
  unfolding view_what enter_what
  first None = refused-first None 3 (λ x. refl) refl
  first (Some (event.GroupIs core least)) = opened core least refl
  first (Some (event.ViewIs v m)) = refused-first (Some (event.ViewIs v m)) 14 (λ x. refl) refl
  first (Some (event.Enter h v)) = refused-first (Some (event.Enter h v)) 14 (λ x. refl) refl
  first (Some (event.GiveState d)) = refused-first (Some (event.GiveState d)) 14 (λ x. refl) refl
  first (Some (event.Decide h)) = refused-first (Some (event.Decide h)) 14 (λ x. refl) refl
  first (Some (event.GiveAttempt d)) = refused-first (Some (event.GiveAttempt d)) 14 (λ x. refl) refl
  first (Some (event.Form h)) = refused-first (Some (event.Form h)) 14 (λ x. refl) refl
  first (Some (event.Cut h n)) = refused-first (Some (event.Cut h n)) 14 (λ x. refl) refl
  first (Some (event.Recover h)) = refused-first (Some (event.Recover h)) 14 (λ x. refl) refl

-- ---- the group line

pub members-small : (v : ℕ) (views : List ℕ) → members_of v views < 65536
unfolding members_of
members-small v views = omega arith

pub starts-group : (core least : ℕ) → starts core least ≡ true → is_group core (taken_least least) ≡ true
unfolding starts can_start
starts-group core least e = and_right (leb 0 15) (is_group core (taken_least least)) e

unfoldable pub setting_of : (core least : ℕ) → core < 65536 → starts core least ≡ true → List ℕ → Setting
setting_of core least small e views = record {
  core = core;
  least = taken_least least;
  members = λ v. members_of v views;
  core-set = small;
  grouped = starts-group core least e;
  members-set = λ v. members-small v views;
}

module _ (S : Setting) (given : ℕ) (takes : taken_least given ≡ S.least) (views : List ℕ) (is : (v : ℕ) → S.members v ≡ members_of v views) (short : length views ≤ 1000) (b : Bench) (k : Waits b) where
  core-noted : noted S.core b.formed ≡ S.core ∷ []
  unfolding put
  core-noted = ap (noted S.core) k.formed ∙ noted-put S.core [] (core-some S (group_in S) (reading S)) (omega arith)

  abbrev group : Option Line
  group = Some (event.GroupIs S.core given)

  group-asked : asked_in group b ≡ what.Open S.core given
  group-asked = ap (λ (g : Bool). group_what g S.core given) k.ungrouped

  opened-on : On S views is short (obeyed 0 0 (what.Open S.core given) b) (after S (starting given 16) (empty S))
  unfolding obeyed acts
  opened-on = record {
    grouped = refl;
    follows =
        subst (λ (t : List Seat). Follows S t (noted S.core b.formed) (after S (starting given 16) (empty S))) (sym (ap (start_last S.core given 16) (set-get_or b.table 0 _ ∙ k.table)))
        (subst (λ (L : List ℕ). Follows S (start_last S.core given 16 (replicate 16 empty_seat)) L (after S (starting given 16) (empty S))) (sym core-noted) (group-follows S given takes));
  }

  -- THE GROUP LINE
  pub group-on : On S views is short (happens group b) (after S (events_of group b) (empty S))
  unfolding happens events_of
  group-on =
      subst (λ (w : What). On S views is short (obeyed 0 0 w b) (after S (events_by 0 (seat_at b.table 0) (seat_at b.table 0) w) (empty S))) (sym group-asked) opened-on

-- it forms the core group's session, and there is room for it
alone-room : (w : ℕ) → Roomy w []
unfolding put
alone-room w = ⊎_elim (λ e. inl (eqb-true w 0 e)) (λ e. inr (noted-put w [] (eqb-false w 0 e) (omega arith))) (passes-or-fails (eqb w 0))

pub group-room : (core least : ℕ) (b : Bench) → Waits b → Roomy (acts 0 0 (asked_in (Some (event.GroupIs core least)) b) b).formed b.formed
unfolding acts
group-room core least b k =
    subst (λ (g : Bool). Roomy (acts 0 0 (group_what g core least) b).formed b.formed) (sym k.ungrouped) (subst (λ (L : List ℕ). Roomy core L) (sym k.formed) (alone-room core))
