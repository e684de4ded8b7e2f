-- "It fits a record if it is none, or if its view is word 1 and not 0, M has own head, all it has heard is from M with own head among it, and every state
-- held keeps line rules 4 to 7, at most 16 places; if undecided it isn't attempted or formed, if decided all states of M are heard, if attempted and not
-- formed (M, word 2) is a used place, and if formed that is last primary and all attempts are heard." Over the parts of a session: its stage (0 none,
-- 1 undecided, 2 closed, 3 attempted, 4 formed), view, M, and the heads whose states and whose attempts were heard.
use Rattle.std.specs.Prelude.{Bool, not, ◌&&◌, ◌||◌, List, ℕ, eqb, leb}
use Rattle.loops.specs.Below.{any_below}
use Rattle.group.specs.Heads.{has, within}
use Rattle.record.specs.Layout.{own, entered, primary, place_at}
use Rattle.state.specs.Rules.{keeps_rules}
use Rattle.state.specs.declared.State.{State}
use Rattle.plan.specs.Form.{view_session}

-- "its view is word 1 and not 0, M has own head"
unfoldable pub view_fits : ℕ → ℕ → List ℕ → Bool
view_fits view m r = eqb view (entered r) && not (eqb view 0) && has m (own r)

-- "all it has heard is from M with own head among it"
unfoldable pub heard_fits : ℕ → ℕ → ℕ → List ℕ → Bool
heard_fits m states attempts r = within states m && within attempts m && has states (own r) && has attempts (own r)

-- "every state held keeps line rules 4 to 7, at most 16 places": held is what was heard of another head q
unfoldable pub state_fits : ℕ → ℕ → ℕ → State → Bool
state_fits states me q st = not (has states q) || eqb q me || keeps_rules st q

-- (M, word 2) is a used place; M has own head, so it is not 0
unfoldable pub placed : ℕ → List ℕ → Bool
placed m r = any_below 16 (λ i. eqb (place_at r i) (view_session m r))

-- "if undecided it isn't attempted or formed" is true of every stage; "if decided all states of M are heard, if attempted and not formed (M, word 2) is a
-- used place, and if formed that is last primary and all attempts are heard"
unfoldable pub stage_fits : ℕ → ℕ → ℕ → ℕ → List ℕ → Bool
stage_fits stage m states attempts r =
    leb stage 4
    && (leb stage 1 || eqb states m)
    && (not (eqb stage 3) || placed m r)
    && (not (eqb stage 4) || (eqb (primary r) (view_session m r) && eqb attempts m))
