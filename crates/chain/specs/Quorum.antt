-- Document 01's group: sets of heads are 16-bit numbers, W0 is `core`, Q is `least`, and the quorum test is crate group's, with `top` for the
-- head that breaks a tie in a set (document 01: the highest-numbered).
use Rattle.std.specs.Prelude.{◌≡◌, true, ℕ, ◌<◌}
use Rattle.group.specs.Heads.{has}
use Rattle.group.specs.Quorum.{enough, passes}
use Rattle.chain.specs.Model.{Group}

unfoldable pub group_of : (ℕ → ℕ) → ℕ → ℕ → (ℕ → ℕ) → Group
group_of top core least members = record {
  In = λ x s. (x < 16) × (has s x ≡ true);
  passes = λ s t. passes top core least s t ≡ true;
  enough = λ t. enough core least t ≡ true;
  members = members;
  core = core;
}
