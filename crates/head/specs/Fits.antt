-- When a session fits a record: document 01's sentence over the parts of a session stands in `fitting`; here it is put together.
use Rattle.std.specs.Prelude.{Bool, ◌&&◌, ◌||◌, List, ℕ, eqb}
use Rattle.loops.specs.Below.{all_below}
use Rattle.record.specs.Layout.{own}
use Rattle.record.specs.Whole.{whole}
use Rattle.plan.specs.Members.{held_of}
use Rattle.fitting.specs.Fits.{view_fits, heard_fits, state_fits, stage_fits}
use Rattle.head.specs.declared.session.Session.{Session}

unfoldable pub held_fits : Session → List ℕ → ℕ → Bool
held_fits s r q = state_fits s.states (own r) q (held_of s.held q)

-- "It fits a record if it is none, or if .."
unfoldable pub fits : Session → List ℕ → Bool
fits s r =
    eqb s.stage 0
    || (view_fits s.view s.members r
    && heard_fits s.members s.states s.attempts r
    && all_below 16 (held_fits s r)
    && stage_fits s.stage s.members s.states s.attempts r)

-- what refusal 2 leaves: not "record not 52 words .. or not whole .., or session not fitting it"
unfoldable pub usable : Session → List ℕ → Bool
usable s r = whole r && fits s r
