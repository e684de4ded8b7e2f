-- What an event line can ask: its numbers have their widths and its heads are of the sixteen, so what a head is asked after the group line is a history's to do. And which
-- views are known after it: one more only where there is room.
use mathlib.Core.Bool.{Bool, true, cond, not, ◌&&◌}
use mathlib.Core.List.{List, [], ◌∷◌, ◌++◌, append-nil}
use mathlib.Core.Path.{◌≡◌, refl, sym, ◌∙◌}
use Prim.Native.Nat.{ℕ, zero, suc, ◌≤◌, ◌<◌}
use native.Mathlib.Omega.{arith}
use borrow.Author.Tests.{leb-true, ltb-true}
use lib.Dec.{eqb, leb, ltb}
use Rattle.std.specs.Prelude.{Option, Some, None}
use Rattle.std.specs.Option.{option_map}
use lib.ListN.{length, drop, length-append}
use Rattle.loops.specs.Below.{every}
use Rattle.loops.proofs.Laws.Truth.{cond-elim, and_right}
use Rattle.group.specs.Words.{session}
use Rattle.lines.specs.Hex.{is_digit, nib, unhex, line_end, line_of}
use Rattle.lines.specs.Frame.{two}
use Rattle.lines.proofs.Laws.HexBack.{Bytes}
use Rattle.lines.proofs.Laws.FrameBack.{bytes_drop, two-lt, four-lt}
use Rattle.history.specs.Setting.{Setting}
use Rattle.events.specs.declared.Event.{Event}
use Rattle.events.specs.declared.Event.TheVariants as event
use Rattle.events.specs.Events.{named, byte_at, starts, of_kind, event_of}
use Rattle.events.specs.declared.Delivery.{Delivery}
use Rattle.events.proofs.Laws.{of-one-head, of-delivery}
use Rattle.deeds.specs.declared.What.{What}
use Rattle.deeds.specs.declared.What.TheVariants as what
use Rattle.views.specs.Views.{announced, members_of, view_what, enter_what}
use Rattle.asking.specs.Asking.{to_of, from_of, in_group, what_of, event_in}
use Rattle.worlds.specs.Bench.{new_views}
use Rattle.printed.proofs.Views.{members-stay}
use Rattle.printed.proofs.Acts.{Allowed}

-- ---- the numbers of an event

abbrev Numbers : Option Event → Type 0
Numbers None = Unit {0}
Numbers (Some (event.GroupIs core least)) = (core < 65536) × (starts core least ≡ true)
Numbers (Some (event.ViewIs v m)) = Unit {0}
Numbers (Some (event.Enter h v)) = (h < 16) × (v < 4294967296)
Numbers (Some (event.GiveState d)) = (d.to < 16) × (d.from < 16)
Numbers (Some (event.Decide h)) = h < 16
Numbers (Some (event.GiveAttempt d)) = (d.to < 16) × (d.from < 16)
Numbers (Some (event.Form h)) = h < 16
Numbers (Some (event.Cut h k)) = h < 16
Numbers (Some (event.Recover h)) = h < 16

pub record Sized (e : Option Event) : Type 0 where
  pub numbers : Numbers e

none-sized : Sized None
none-sized = record { numbers = tt }

unhex-bytes : (s : List ℕ) → Bytes (unhex s)
unfolding unhex nib
unhex-bytes [] k = omega arith
unhex-bytes (a ∷ []) k = omega arith
unhex-bytes (a ∷ b ∷ s) zero = omega arith
unhex-bytes (a ∷ b ∷ s) (suc k) = unhex-bytes s k

named-sized : (h : ℕ) (e : Option Event) → (h < 16 → Sized e) → Sized (named h e)
named-sized h e f = cond-elim Sized (leb h 15) e None (λ t. f (omega (arith, leb-true h 15 t))) (λ t. none-sized)

long-sized : (n k : ℕ) (e : Option Event) → Sized e → Sized (cond (eqb n k) e None)
long-sized n k e s = cond-elim Sized (eqb n k) e None (λ t. s) (λ t. none-sized)

kind-sized : (k n : ℕ) (f : List ℕ) → Bytes f → Sized (of_kind k n f)
kind-sized k n f bytes =
    let head = λ (e : ℕ → Event) (g : (h : ℕ) → h < 16 → Sized (Some (e h))). of-one-head n f (λ h. Sized (option_map e h)) none-sized g in
    let line = λ (e : Delivery → Event) (g : (d : Delivery) → d.to < 16 → d.from < 16 → Sized (Some (e d))). of-delivery n f (λ d. Sized (option_map e d)) none-sized g in
    cond-elim Sized (eqb k 0x10) _ _ (λ t. long-sized n 8 _ (cond-elim Sized (starts (two (drop 1 f)) (byte_at 3 f)) _ None (λ u. record { numbers = (two-lt (drop 1 f) (bytes_drop f 1 bytes), u) }) (λ u. none-sized)))
    (λ t. cond-elim Sized (eqb k 0x11) _ _ (λ t. long-sized n 14 _ (record { numbers = tt }))
    (λ t. cond-elim Sized (eqb k 0x12) _ _ (λ t. long-sized n 12 _ (named-sized (byte_at 1 f) _ (λ l. record { numbers = (l, four-lt (drop 2 f) (bytes_drop f 2 bytes)) })))
    (λ t. cond-elim Sized (eqb k 0x13) _ _ (λ t. line (λ d. event.GiveState d) (λ d l m. record { numbers = (l, m) }))
    (λ t. cond-elim Sized (eqb k 0x14) _ _ (λ t. head (λ h. event.Decide h) (λ h l. record { numbers = l }))
    (λ t. cond-elim Sized (eqb k 0x15) _ _ (λ t. line (λ d. event.GiveAttempt d) (λ d l m. record { numbers = (l, m) }))
    (λ t. cond-elim Sized (eqb k 0x16) _ _ (λ t. head (λ h. event.Form h) (λ h l. record { numbers = l }))
    (λ t. cond-elim Sized (eqb k 0x17) _ _ (λ t. long-sized n 8 _ (named-sized (byte_at 1 f) _ (λ l. record { numbers = l })))
    (λ t. cond-elim Sized (eqb k 0x18) _ _ (λ t. head (λ h. event.Recover h) (λ h l. record { numbers = l })) (λ t. none-sized)))))))))

event-sized : (l : List ℕ) → Sized (event_of l)
event-sized l = cond-elim Sized (every is_digit l && leb 4 (length l)) _ _ (λ t. kind-sized (byte_at 0 (unhex l)) (length l) (unhex l) (unhex-bytes l)) (λ t. none-sized)

pub line-sized : (l : List ℕ) → Sized (event_in l)
line-sized l = cond-elim Sized (ltb (line_end l) (length l)) _ _ (λ t. event-sized (line_of l)) (λ t. none-sized)

-- ---- the heads of an event

pub to-small : (e : Option Event) → Sized e → to_of e < 16
to-small None s = omega arith
to-small (Some (event.GroupIs core least)) s = omega arith
to-small (Some (event.ViewIs v m)) s = omega arith
to-small (Some (event.Enter h v)) s = s.numbers.0
to-small (Some (event.GiveState d)) s = s.numbers.0
to-small (Some (event.Decide h)) s = s.numbers
to-small (Some (event.GiveAttempt d)) s = s.numbers.0
to-small (Some (event.Form h)) s = s.numbers
to-small (Some (event.Cut h k)) s = s.numbers
to-small (Some (event.Recover h)) s = s.numbers

pub from-small : (e : Option Event) → Sized e → from_of e < 16
from-small None s = omega arith
from-small (Some (event.GroupIs core least)) s = omega arith
from-small (Some (event.ViewIs v m)) s = omega arith
from-small (Some (event.Enter h v)) s = s.numbers.0
from-small (Some (event.GiveState d)) s = s.numbers.1
from-small (Some (event.Decide h)) s = s.numbers
from-small (Some (event.GiveAttempt d)) s = s.numbers.1
from-small (Some (event.Form h)) s = s.numbers
from-small (Some (event.Cut h k)) s = s.numbers
from-small (Some (event.Recover h)) s = s.numbers

-- ---- after the group line

-- what is asked, while the setting's views are those announced and perhaps more
pub asked-allowed : (S : Setting) (views more : List ℕ) → ((v : ℕ) → S.members v ≡ members_of v (views ++ more)) → (e : Option Event) → Sized e → Allowed S (what_of e true views)
unfolding view_what enter_what
asked-allowed S views more is None s = tt
asked-allowed S views more is (Some (event.GroupIs core least)) s = tt
asked-allowed S views more is (Some (event.ViewIs v m)) s =
    cond-elim (Allowed S) (not (announced v views) && ltb (length views) 1000) (what.Announce v m) (what.Refuse 14) (λ t. tt) (λ t. tt)
asked-allowed S views more is (Some (event.Enter h v)) s =
    cond-elim (Allowed S) (announced v views) (what.Enter v (members_of v views)) (what.Refuse 14) (λ t. (s.numbers.1, sym (is v ∙ members-stay v views more t))) (λ t. tt)
asked-allowed S views more is (Some (event.GiveState d)) s = tt
asked-allowed S views more is (Some (event.Decide h)) s = tt
asked-allowed S views more is (Some (event.GiveAttempt d)) s = tt
asked-allowed S views more is (Some (event.Form h)) s = tt
asked-allowed S views more is (Some (event.Cut h k)) s = tt
asked-allowed S views more is (Some (event.Recover h)) s = tt

-- ---- the views after an event

abbrev Few : List ℕ → What → Type 0
Few views w = length (views ++ new_views w) ≤ 1000

module _ (views : List ℕ) (few : length views ≤ 1000) where
  no_more : length (views ++ []) ≤ 1000
  no_more = rw (append-nil views) few

  in-group-few : (grouped : Bool) (w : What) → new_views w ≡ [] → Few views (in_group grouped w)
  in-group-few grouped w e = cond-elim (Few views) grouped w (what.Refuse 14) (λ t. rw e no_more) (λ t. no_more)

  pub asked-few : (e : Option Event) (grouped : Bool) → length (views ++ new_views (what_of e grouped views)) ≤ 1000
  unfolding view_what enter_what
  asked-few None grouped = no_more
  asked-few (Some (event.GroupIs core least)) grouped = cond-elim (Few views) grouped (what.Refuse 14) (what.Open core least) (λ t. no_more) (λ t. no_more)
  asked-few (Some (event.ViewIs v m)) grouped =
      cond-elim (Few views) (grouped && not (announced v views) && ltb (length views) 1000) (what.Announce v m) (what.Refuse 14)
      (λ t. omega (arith, length-append views (session v m ∷ []), ltb-true (length views) 1000 (and_right (grouped && not (announced v views)) _ t))) (λ t. no_more)
  asked-few (Some (event.Enter h v)) grouped = cond-elim (Few views) (grouped && announced v views) (what.Enter v (members_of v views)) (what.Refuse 14) (λ t. no_more) (λ t. no_more)
  asked-few (Some (event.GiveState d)) grouped = in-group-few grouped (what.HearState d.which) refl
  asked-few (Some (event.Decide h)) grouped = in-group-few grouped what.Decide refl
  asked-few (Some (event.GiveAttempt d)) grouped = in-group-few grouped (what.HearAttempt d.which) refl
  asked-few (Some (event.Form h)) grouped = in-group-few grouped what.Form refl
  asked-few (Some (event.Cut h k)) grouped = in-group-few grouped (what.Arm k) refl
  asked-few (Some (event.Recover h)) grouped = in-group-few grouped what.Recover refl
