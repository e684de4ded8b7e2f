-- Three sessions formed in a row, by computation.
use mathlib.Core.Bool.{true, false}
use mathlib.Core.Path.{◌≡◌, refl, ap}
use mathlib.Core.List.{List, [], ◌∷◌}
use native.Mathlib.Omega.{arith}
use lib.Dec.{eqb}
use Rattle.history.specs.Setting.{Setting}
use Rattle.history.specs.Statement.{World, enter, decide, form, recover, call, empty as empty_world, History, begin, insert, in_order}
use Rattle.examples.specs.Examples.{is_whole, shrinking, Is, here, ThreeInARow}
use Rattle.examples.proofs.Examples.Play.{Move, does, hears-state, hears-attempt, starts, makes, tells-state, tells-attempt, play, allowed, led, played, three-views, seven-grouped}

three : Setting
unfolding shrinking
three = record { core = 0x7; least = 1; members = shrinking; core-set = omega arith; grouped = seven-grouped; members-set = λ v. three-views (eqb v 1) (eqb v 2) 0x7 0x6 0x4 (omega arith) (omega arith) (omega arith) }

-- view 1: all three attempt, and head 2 alone forms, cut after its first store
to-cut : List Move
to-cut =
    starts 0 ∷ starts 1 ∷ starts 2
    ∷ makes 0 (enter 1) ∷ makes 1 (enter 1) ∷ makes 2 (enter 1) ∷ tells-state 0 ∷ tells-state 1 ∷ tells-state 2
    ∷ hears-state 0 1 ∷ hears-state 0 0 ∷ hears-state 1 2 ∷ hears-state 1 0 ∷ hears-state 2 2 ∷ hears-state 2 1
    ∷ makes 0 decide ∷ makes 1 decide ∷ makes 2 decide ∷ tells-attempt 0 ∷ tells-attempt 1
    ∷ hears-attempt 2 1 ∷ hears-attempt 2 0 ∷ does (call 2 false 1 form) ∷ []

-- head 2 recovers. View 2: head 1 learns of (0007, 1) from head 2, and both form. View 3: head 2 forms alone.
later : List Move
later =
    makes 2 recover
    ∷ makes 1 (enter 2) ∷ makes 2 (enter 2) ∷ tells-state 1 ∷ tells-state 2 ∷ hears-state 1 0 ∷ hears-state 2 1 ∷ makes 1 decide ∷ makes 2 decide
    ∷ tells-attempt 1 ∷ tells-attempt 2 ∷ hears-attempt 1 0 ∷ hears-attempt 2 1 ∷ makes 1 form ∷ makes 2 form
    ∷ makes 2 (enter 3) ∷ makes 2 decide ∷ makes 2 form ∷ []

abbrev half : World
half = play three to-cut (empty_world three)

abbrev end : World
end = play three later half

to-cut-allowed : allowed three to-cut (empty_world three) ≡ true
unfolding three shrinking to-cut play allowed
to-cut-allowed = refl

cut-counts : half.formed ≡ 0x10007 ∷ 0x7 ∷ []
unfolding three shrinking to-cut play allowed
cut-counts = refl

cut-not-whole : is_whole (half.head 2) ≡ false
unfolding three shrinking to-cut play allowed
cut-not-whole = refl

later-allowed : allowed three later half ≡ true
unfolding three shrinking to-cut later play allowed
later-allowed = refl

are-formed : end.formed ≡ 0x30004 ∷ 0x20006 ∷ 0x20006 ∷ 0x10007 ∷ 0x7 ∷ []
unfolding three shrinking to-cut later play allowed
are-formed = refl

are-listed : in_order end.formed ≡ 0x7 ∷ 0x10007 ∷ 0x20006 ∷ 0x30004 ∷ []
unfolding in_order insert
are-listed = ap in_order are-formed

three-is : Is three 0x7 shrinking
unfolding three
three-is = record { core_is = refl; least-is = refl; members-is = λ v. refl }

to-half : History three half
to-half = played three to-cut (empty_world three) to-cut-allowed begin

-- THREE SESSIONS IN A ROW
pub three-in-a-row : ThreeInARow
three-in-a-row = record {
  setting = three;
  is = three-is;
  after-cut = half;
  first = to-half;
  counts = cut-counts;
  not-whole = cut-not-whole;
  world = end;
  leads = led three half later half later-allowed here;
  history = played three later half later-allowed to-half;
  formed = are-formed;
  listed = are-listed;
}
