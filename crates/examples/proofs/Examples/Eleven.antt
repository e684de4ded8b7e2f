-- Case 11 of document 01 by computation.
use mathlib.Core.Bool.{true, false}
use mathlib.Core.Path.{◌≡◌, refl}
use mathlib.Core.List.{List, [], ◌∷◌}
use native.Mathlib.Omega.{arith}
use lib.Dec.{eqb}
use Rattle.loops.specs.Below.{fold_below, count_below}
use Rattle.group.specs.Answers.{attempted, no-quorum}
use Rattle.group.specs.Heads.{has, size, empty}
use Rattle.group.specs.Quorum.{is_group}
use Rattle.history.specs.Setting.{Setting}
use Rattle.history.specs.Statement.{World, enter, decide, form, call, empty as empty_world, History, begin, more}
use Rattle.examples.specs.Examples.{decides, holds, lists, stage_of, eleven, Is, all_decide, CaseEleven}
use Rattle.examples.proofs.Examples.Play.{Move, hears-state, hears-attempt, starts, makes, tells-state, tells-attempt, play, allowed, played, three-views}

grouped : is_group 0x1f 1 ≡ true
unfolding is_group empty size count_below fold_below has
grouped = refl

five : Setting
unfolding eleven
five = record { core = 0x1f; least = 1; members = eleven; core-set = omega arith; grouped = grouped; members-set = λ v. three-views (eqb v 1) (eqb v 2) 0x7 0x3 0x1c (omega arith) (omega arith) (omega arith) }

-- up to the decides in the views 2 and 3. View 1: all three decide and tell their attempts, and heads 0 and 1 form. View 2: both hear each other. View 3: head 2 hears heads 3 and 4.
moves : List Move
moves =
    starts 0 ∷ starts 1 ∷ starts 2 ∷ starts 3 ∷ starts 4
    ∷ makes 0 (enter 1) ∷ makes 1 (enter 1) ∷ makes 2 (enter 1) ∷ tells-state 0 ∷ tells-state 1 ∷ tells-state 2
    ∷ hears-state 0 1 ∷ hears-state 0 0 ∷ hears-state 1 2 ∷ hears-state 1 0 ∷ hears-state 2 2 ∷ hears-state 2 1
    ∷ makes 0 decide ∷ makes 1 decide ∷ makes 2 decide ∷ tells-attempt 0 ∷ tells-attempt 1 ∷ tells-attempt 2
    ∷ hears-attempt 0 1 ∷ hears-attempt 0 0 ∷ hears-attempt 1 2 ∷ hears-attempt 1 0 ∷ makes 0 form ∷ makes 1 form
    ∷ makes 0 (enter 2) ∷ makes 1 (enter 2) ∷ tells-state 0 ∷ tells-state 1 ∷ hears-state 0 0 ∷ hears-state 1 1
    ∷ makes 2 (enter 3) ∷ makes 3 (enter 3) ∷ makes 4 (enter 3) ∷ tells-state 2 ∷ tells-state 3 ∷ tells-state 4 ∷ hears-state 2 1 ∷ hears-state 2 0 ∷ []

abbrev before : World
before = play five moves (empty_world five)

abbrev end : World
end = all_decide five before

is-allowed : allowed five moves (empty_world five) ≡ true
unfolding five eleven moves play allowed
is-allowed = refl

are-formed : before.formed ≡ 0x10007 ∷ 0x10007 ∷ 0x1f ∷ []
unfolding five eleven moves play allowed
are-formed = refl

attempts-only : (holds (before.head 2) ≡ 0x1f) × (lists (before.head 2) ≡ 0x10007)
unfolding five eleven moves play allowed
attempts-only = (refl, refl)

are-answers : (decides (before.head 0) ≡ attempted) × (decides (before.head 1) ≡ attempted) × (decides (before.head 2) ≡ no-quorum)
unfolding five eleven moves play allowed
are-answers = (refl, refl, refl)

in_two : (lists (end.head 0) ≡ 0x20003) × (lists (end.head 1) ≡ 0x20003) × (stage_of (end.head 0) ≡ 3) × (stage_of (end.head 1) ≡ 3)
unfolding five eleven moves play allowed
in_two = (refl, refl, refl, refl)

in_three : (stage_of (end.head 2) ≡ 2) × (holds (end.head 2) ≡ 0x1f) × (lists (end.head 2) ≡ 0x10007)
unfolding five eleven moves play allowed
in_three = (refl, refl, refl)

to-before : History five before
to-before = played five moves (empty_world five) is-allowed begin

five-is : Is five 0x1f eleven
unfolding five
five-is = record { core_is = refl; least-is = refl; members-is = λ v. refl }

-- CASE 11
pub case-eleven : CaseEleven
case-eleven = record {
  setting = five;
  is = five-is;
  asked = before;
  first = to-before;
  formed = are-formed;
  attempted-only = attempts-only;
  answers = are-answers;
  world = end;
  decided = refl;
  history = more (call 2 false 128 decide) tt (more (call 1 false 128 decide) tt (more (call 0 false 128 decide) tt to-before));
  view-two = in_two;
  view-three = in_three;
}
