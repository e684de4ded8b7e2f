-- A blank stored among blanks changes nothing.
use mathlib.Core.Path.{◌≡◌, refl, ap}
use mathlib.Core.List.{List, ◌∷◌}
use Prim.Native.Nat.{ℕ, zero, suc}
use lib.ListN.{set, replicate}
use Rattle.state.specs.declared.State.{State}
use Rattle.state.specs.Values.{no_state, nothing_held}
use Rattle.head.specs.declared.session.Session.{Session}
use Rattle.head.specs.Session.{no_session}
use Rattle.head.proofs.session.Session.none_of.Goals as goal

set_same : (n i : ℕ) (x : State) → set (replicate n x) i x ≡ replicate n x
set_same zero i x = refl
set_same (suc n) zero x = refl
set_same (suc n) (suc i) x = ap (λ l. x ∷ l) (set_same n i x)

abbrev holding : List State → Session
holding l = record { stage = 0; view = 0; members = 0; states = 0; attempts = 0; held = record { of = l } }

pub returns : goal.returns
unfolding no_session nothing_held
returns c = rw (c.nothing_held-held.ensures, c.no_state.ensures, c.none.ensures) (ap holding (set_same 16 c.args.own no_state))
