-- Document 01's quorum test is lawful: crate group's laws of the test, for any tie-break that picks a head of each set that has one.
use mathlib.Core.Path.{◌≡◌, ◌∙◌}
use mathlib.Core.Bool.{true, not, ◌&&◌}
use Prim.Native.Nat.{ℕ, ◌≤◌, ◌<◌}
use native.Mathlib.Omega.{arith}
use lib.Dec.{eqb, leb}
use borrow.Author.Tests.{leb-true, le-leb}
use Rattle.loops.proofs.Laws.Truth.{and_right, and_both}
use Rattle.group.specs.Heads.{has, size, empty, common, shared, highest, Share}
use Rattle.group.specs.Quorum.{enough, is_group}
use Rattle.group.proofs.Laws.Heads.{has-common, size_mono, highest-member}
use Rattle.group.proofs.Laws.Quorum.{pass-share, pass_meets, pass-enough}
use Rattle.chain.specs.Model.{Lawful, Meet}
use Rattle.chain.specs.Quorum.{group_of}

-- W0 has Q heads of W0
core-enough : (core least : ℕ) → is_group core least ≡ true → least ≤ shared core core
unfolding is_group shared
core-enough core least k =
    let q : least ≤ size core = leb-true least (size core) (and_right (not (empty core) && not (eqb least 0)) (leb least (size core)) k) in
    omega (arith, size_mono core (common core core) (λ h l m. has-common core core h ∙ and_both (has core h) (has core h) m m))

module _ (top : ℕ → ℕ) (member : (s : ℕ) → 0 < size s → (top s < 16) × (has s (top s) ≡ true)) (core least : ℕ) (members : ℕ → ℕ) where
  meets : (s t : ℕ) → Share s t → Meet (group_of top core least members) s t
  unfolding group_of
  meets s t (x, l, a, b) = (x, (l, a), (l, b))

  pub quorum-lawful : is_group core least ≡ true → Lawful (group_of top core least members)
  unfolding group_of enough
  quorum-lawful k = record {
    passes-enough = λ s t p. le-leb least (shared core t) (pass-enough top member core least s t p);
    passes-meet = λ s t u p q. meets t u (pass-share top member core least s t u p q);
    enough-meet = λ s t e p. meets s t (pass_meets top member core least s t (leb-true least (shared core s) e) p);
    core-enough = le-leb least (shared core core) (core-enough core least k);
  }

-- with document 01's tie-break
pub highest-lawful : (core least : ℕ) (members : ℕ → ℕ) → is_group core least ≡ true → Lawful (group_of highest core least members)
highest-lawful = quorum-lawful highest highest-member
