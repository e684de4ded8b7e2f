-- A session that goes on: own head, and who its members are.
use mathlib.Core.Bool.{true}
use mathlib.Core.Logic.{⊎_elim}
use mathlib.Core.Path.{◌≡◌, sym, ap, subst, ◌∙◌}
use mathlib.Core.List.{List}
use Prim.Native.Nat.{ℕ, ◌<◌}
use Rattle.group.specs.Heads.{has}
use Rattle.group.proofs.Laws.Heads.{has-below}
use Rattle.record.specs.Layout.{own, entered}
use Rattle.head.specs.declared.session.Session.{Session}
use Rattle.chain.specs.Model.{Group}
use Rattle.history.specs.Setting.{Setting}
use Rattle.history.proofs.Invariant.{Reading, Live, Runs, group-own}

module _ (S : Setting) (p : ℕ) (r : List ℕ) (s : Session) (i : Runs S p r s) where
  pub goes_on : (s.stage ≡ 0 → ⊥) → Live S r s
  goes_on n = ⊎_elim (λ z. absurd (n z)) (λ l. l) i.session

  pub own_is : own r ≡ p
  own_is = group-own S p r i.seat i.group

module _ (S : Setting) (r : List ℕ) (s : Session) (v : Live S r s) where
  module _ (G : Group) (R : Reading S G) where
    -- M is what the view stands for
    pub members-here : G.members (entered r) ≡ s.members
    members-here = R.members (entered r) ∙ ap S.members (sym v.fitting.view) ∙ sym v.same

    pub member-has : (x : ℕ) → G.In x (G.members (entered r)) → (x < 16) × (has s.members x ≡ true)
    member-has x j = R.out x s.members (subst (λ (t : ℕ). G.In x t) members-here j)

    pub has-member : (x : ℕ) → has s.members x ≡ true → G.In x (G.members (entered r))
    has-member x e = subst (λ (t : ℕ). G.In x t) (sym members-here) (R.into x s.members (has-below s.members x v.sized.members e) e)
