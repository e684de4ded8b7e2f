-- Two conditions of a history that are needed, by computation: a head number started again, and an attempt line that its sender never wrote, each lead to two
-- formed sessions of one number.
use mathlib.Core.Bool.{true, false}
use mathlib.Core.Path.{◌≡◌, refl}
use mathlib.Core.List.{List, [], ◌∷◌}
use lib.ListN.{replicate}
use Rattle.lines.specs.Writing.{attempt_line}
use Rattle.history.specs.Statement.{World, enter, hear-attempt, decide, form, start, call, empty as empty_world, step, begin}
use Rattle.examples.specs.Examples.{here, Restarted, Forged}
use Rattle.examples.proofs.Examples.Play.{Move, hears-state, hears-attempt, starts, makes, tells-state, tells-attempt, play, allowed, led, played}
use Rattle.examples.proofs.Examples.Attempts.{crossed, crossed-is}

-- heads 1 and 2 hear each other in view 2, and head 1 forms
unfoldable view-two : List Move
view-two =
    makes 1 (enter 2) ∷ makes 2 (enter 2) ∷ tells-state 1 ∷ tells-state 2 ∷ hears-state 1 0 ∷ hears-state 2 1 ∷ makes 1 decide ∷ makes 2 decide
    ∷ tells-attempt 2 ∷ hears-attempt 1 0 ∷ makes 1 form ∷ []

-- ---- started again

-- heads 0 and 1 attempt in view 1, and head 1 forms
unfoldable first : List Move
first =
    starts 0 ∷ starts 1 ∷ starts 2 ∷ makes 0 (enter 1) ∷ makes 1 (enter 1) ∷ tells-state 0 ∷ tells-state 1 ∷ hears-state 0 0 ∷ hears-state 1 1
    ∷ makes 0 decide ∷ makes 1 decide ∷ tells-attempt 0 ∷ hears-attempt 1 0 ∷ makes 1 form ∷ []

abbrev formed-once : World
formed-once = play crossed first (empty_world crossed)

abbrev again : World
again = step crossed (start 1 (replicate 52 0) 0) formed-once

first-allowed : allowed crossed first (empty_world crossed) ≡ true
unfolding crossed first play allowed
first-allowed = refl

again-allowed : allowed crossed view-two again ≡ true
unfolding crossed first view-two play allowed
again-allowed = refl

again-formed : (play crossed view-two again).formed ≡ 0x10006 ∷ 0x10003 ∷ 0x7 ∷ []
unfolding crossed first view-two play allowed
again-formed = refl

pub restarted : Restarted
restarted = record {
  setting = crossed;
  is = crossed-is;
  before = formed-once;
  history = played crossed first (empty_world crossed) first-allowed begin;
  after = play crossed view-two again;
  leads = led crossed again view-two again again-allowed here;
  formed = again-formed;
}

-- ---- a line never written

-- head 0 attempts in view 1; head 1 does not
unfoldable second : List Move
second = starts 0 ∷ starts 1 ∷ starts 2 ∷ makes 0 (enter 1) ∷ makes 1 (enter 1) ∷ tells-state 1 ∷ hears-state 0 0 ∷ makes 0 decide ∷ []

abbrev attempted-once : World
attempted-once = play crossed second (empty_world crossed)

abbrev lied : World
lied = step crossed (call 0 false 0 (hear-attempt (attempt_line 1 1))) attempted-once

second-allowed : allowed crossed second (empty_world crossed) ≡ true
unfolding crossed second play allowed
second-allowed = refl

lied-allowed : allowed crossed (makes 0 form ∷ view-two) lied ≡ true
unfolding crossed second view-two play allowed
lied-allowed = refl

lied-formed : (play crossed (makes 0 form ∷ view-two) lied).formed ≡ 0x10006 ∷ 0x10003 ∷ 0x7 ∷ []
unfolding crossed second view-two play allowed
lied-formed = refl

pub forged : Forged
forged = record {
  setting = crossed;
  is = crossed-is;
  before = attempted-once;
  history = played crossed second (empty_world crossed) second-allowed begin;
  after = play crossed (makes 0 form ∷ view-two) lied;
  leads = led crossed lied (makes 0 form ∷ view-two) lied lied-allowed here;
  formed = lied-formed;
}
