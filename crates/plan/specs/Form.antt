-- Form: "(M, word 2) becomes last primary, and last formed for each head of M; all places are cleared".
use Rattle.std.specs.Prelude.{List, [], ◌∷◌, ℕ}
use Rattle.group.specs.Words.{session}
use Rattle.store.specs.Program.{Step}
use Rattle.store.specs.Changes.{Change}
use Rattle.record.specs.Layout.{number}
use Rattle.recovery.specs.Changes.{form_change}

-- (M, word 2)
unfoldable pub view_session : ℕ → List ℕ → ℕ
view_session m r = session (number r) m

unfoldable pub form_step : ℕ → Step
form_step m r = form_change r (view_session m r)

unfoldable pub form_changes : ℕ → List ℕ → List Change
form_changes m r = form_step m r ∷ []
