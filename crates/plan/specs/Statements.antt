-- What is proved of decide and form as calls that store, beside document 01's "Stores and cuts". The proofs are in proofs/Laws.
use Rattle.std.specs.Prelude.{◌≡◌, true, List, [], ◌∷◌, ℕ, ◌<◌}
use Rattle.group.specs.Heads.{has}
use Rattle.store.specs.Desk.{desk, budget, apply}
use Rattle.store.specs.Program.{exec, after}
use Rattle.store.specs.Changes.{begun}
use Rattle.record.specs.Layout.{own, primary, place_at}
use Rattle.record.specs.Whole.{whole}
use Rattle.recovery.specs.Recover.{mended}
use Rattle.state.specs.declared.Held.{Held}
use Rattle.state.specs.Rules.{keeps_rules}
use Rattle.plan.specs.Members.{held_of, other}
use Rattle.plan.specs.Attempt.{attempts}
use Rattle.plan.specs.Decide.{after_c, decide_program, decide_changes}
use Rattle.plan.specs.Form.{view_session, form_step, form_changes}

-- what decide is given: a whole record, members of the view with own head among them, and of each other member a state that keeps the rules, with a
-- session number within the limits
pub record Given (m : ℕ) (held : Held) (r : List ℕ) : Type 0 where
  pub sound : whole r ≡ true
  pub members : m < 65536
  pub among : has m (own r) ≡ true
  pub states : (q : ℕ) → q < 16 → other m r q ≡ true → keeps_rules (held_of held q) q ≡ true
  pub numbers : (q : ℕ) → q < 16 → other m r q ≡ true → (held_of held q).number < 4294967296

-- "The recovered record is the one after the done changes."
abbrev pub DecideCut : Type 0
DecideCut = (m : ℕ) (held : Held) (r : List ℕ) (k : ℕ) → Given m held r
    → mended (exec (decide_program m held) (desk r (budget k))).rec ≡ apply (begun k (decide_changes m held r)) r

abbrev pub DecideWhole : Type 0
DecideWhole = (m : ℕ) (held : Held) (r : List ℕ) → Given m held r → whole (after (decide_program m held) r) ≡ true

-- what form is given: a whole record in which (M, word 2) is a used place
pub record Forming (m : ℕ) (r : List ℕ) : Type 0 where
  pub sound : whole r ≡ true
  pub members : m < 65536
  pub among : has m (own r) ≡ true
  pub place : ℕ
  pub below : place < 16
  pub placed : place_at r place ≡ view_session m r

abbrev pub FormCut : Type 0
FormCut = (m : ℕ) (r : List ℕ) (k : ℕ) → Forming m r → mended (exec (form_step m ∷ []) (desk r (budget k))).rec ≡ apply (begun k (form_changes m r)) r

abbrev pub FormWhole : Type 0
FormWhole = (m : ℕ) (r : List ℕ) → Forming m r → whole (after (form_step m ∷ []) r) ≡ true

-- "(M, highest + 1) goes in the lowest free place .. and word 2 takes its number": so an attempt leaves what form is given
abbrev pub AttemptPlaces : Type 0
AttemptPlaces = (m : ℕ) (held : Held) (r : List ℕ) → Given m held r → attempts m held (after_c m held r) ≡ true → Forming m (after (decide_program m held) r)

-- "(M, word 2) becomes last primary"
abbrev pub FormsPrimary : Type 0
FormsPrimary = (m : ℕ) (r : List ℕ) → Forming m r → primary (after (form_step m ∷ []) r) ≡ view_session m (after (form_step m ∷ []) r)
