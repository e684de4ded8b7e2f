-- Two attempted sessions of one number, by computation: the moves are played from the empty world, and the two places are read off.
use mathlib.Core.Bool.{true}
use mathlib.Core.Path.{◌≡◌, refl}
use mathlib.Core.List.{List, [], ◌∷◌}
use native.Mathlib.Omega.{arith}
use lib.Dec.{eqb}
use Rattle.history.specs.Setting.{Setting}
use Rattle.history.specs.Statement.{World, enter, decide, empty as empty_world, begin}
use Rattle.examples.specs.Examples.{lists, crossing, Is, TwoAttempts}
use Rattle.examples.proofs.Examples.Play.{Move, hears-state, starts, makes, tells-state, play, allowed, played, three-views, seven-grouped}

unfoldable pub crossed : Setting
unfolding crossing
crossed = record { core = 0x7; least = 1; members = crossing; core-set = omega arith; grouped = seven-grouped; members-set = λ v. three-views (eqb v 1) true 0x3 0x6 0x6 (omega arith) (omega arith) (omega arith) }

-- head 0 hears head 1 in view 1 and attempts; head 1 goes on to view 2 with head 2, which has not heard of it, and attempts there
crossing-moves : List Move
crossing-moves =
    starts 0 ∷ starts 1 ∷ starts 2
    ∷ makes 0 (enter 1) ∷ makes 1 (enter 1) ∷ tells-state 1 ∷ hears-state 0 0 ∷ makes 0 decide
    ∷ makes 1 (enter 2) ∷ makes 2 (enter 2) ∷ tells-state 2 ∷ hears-state 1 0 ∷ makes 1 decide ∷ []

abbrev crossing-end : World
crossing-end = play crossed crossing-moves (empty_world crossed)

crossing-allowed : allowed crossed crossing-moves (empty_world crossed) ≡ true
unfolding crossed crossing crossing-moves play allowed
crossing-allowed = refl

crossing-one : lists (crossing-end.head 0) ≡ 0x10003
unfolding crossed crossing crossing-moves play allowed
crossing-one = refl

crossing-other : lists (crossing-end.head 1) ≡ 0x10006
unfolding crossed crossing crossing-moves play allowed
crossing-other = refl

pub crossed-is : Is crossed 0x7 crossing
unfolding crossed
crossed-is = record { core_is = refl; least-is = refl; members-is = λ v. refl }

-- TWO ATTEMPTED SESSIONS OF ONE NUMBER
pub two-attempts : TwoAttempts
two-attempts = record {
  setting = crossed;
  is = crossed-is;
  world = crossing-end;
  history = played crossed crossing-moves (empty_world crossed) crossing-allowed begin;
  one = crossing-one;
  other = crossing-other;
}
