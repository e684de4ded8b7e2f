-- b. "adopt the highest-numbered last formed for p among the q (lowest q on a tie) if above own last primary's"
use Rattle.std.specs.Prelude.{Bool, cond, List, [], ℕ, ltb}
use Rattle.group.specs.Words.{rank, highest_of}
use Rattle.store.specs.Program.{Step}
use Rattle.record.specs.Layout.{primary}
use Rattle.recovery.specs.Changes.{adopt_change}
use Rattle.state.specs.declared.Held.{Held}
use Rattle.plan.specs.Members.{other, formed_with}

-- what q offers: its last formed for p; nothing where q is no other member
unfoldable pub offered : ℕ → Held → List ℕ → ℕ → ℕ
offered m held r q = cond (other m r q) (formed_with held r q) 0

unfoldable pub best_offer : ℕ → Held → List ℕ → ℕ
best_offer m held r = highest_of 16 (offered m held r)

unfoldable pub adopts : ℕ → Held → List ℕ → Bool
adopts m held r = ltb (rank (primary r)) (rank (best_offer m held r))

-- "it becomes last primary, and last formed for each of its heads; word 2 rises to its number if lower; places numbered at or below it are cleared"
unfoldable pub adopt_step : ℕ → Held → Step
adopt_step m held r = cond (adopts m held r) (adopt_change r (best_offer m held r)) []
