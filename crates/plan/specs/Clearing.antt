-- c. "clear each place S left whose heads less p are all marked, or for which some q in S and M doesn't list S and has a last primary with a lower
-- number, or the same number and other heads"
use Rattle.std.specs.Prelude.{Bool, not, cond, ◌&&◌, ◌||◌, List, [], ℕ, eqb, ltb, get_or}
use Rattle.loops.specs.Below.{any_below}
use Rattle.group.specs.Heads.{has, less, only, within}
use Rattle.group.specs.Words.{heads, rank}
use Rattle.store.specs.Program.{Step}
use Rattle.record.specs.Layout.{own, place_at, marks_at}
use Rattle.recovery.specs.Changes.{clear_change}
use Rattle.state.specs.declared.State.{State}
use Rattle.state.specs.declared.Held.{Held}
use Rattle.plan.specs.Members.{held_of, other}

-- "whose heads less p are all marked"
unfoldable pub all_marked : List ℕ → ℕ → Bool
all_marked r i = within (less (heads (place_at r i)) (only (own r))) (marks_at r i)

-- the state lists session w: only its first `count` places count
unfoldable pub lists : State → ℕ → Bool
lists st w = any_below 16 (λ j. ltb j st.count && eqb (get_or st.places j 0) w)

-- last primary p has "a lower number, or the same number and other heads" than session w
unfoldable pub behind : ℕ → ℕ → Bool
behind p w = ltb (rank p) (rank w) || (eqb (rank p) (rank w) && not (eqb (heads p) (heads w)))

-- q in S and M denies session w
unfoldable pub denies : ℕ → Held → List ℕ → ℕ → ℕ → Bool
denies m held r w q = has w q && other m r q && not (lists (held_of held q) w) && behind (held_of held q).primary w

unfoldable pub to_clear : ℕ → Held → List ℕ → ℕ → Bool
to_clear m held r i = not (eqb (place_at r i) 0) && (all_marked r i || any_below 16 (denies m held r (place_at r i)))

unfoldable pub clear_step : ℕ → Held → ℕ → Step
clear_step m held i r = cond (to_clear m held r i) (clear_change i) []
