-- The setting of a history: the core group W0, the minimum Q that every start takes, and the one membership that each view number stands for.
use Rattle.std.specs.Prelude.{true, ◌≡◌, ℕ, ◌<◌}
use Rattle.group.specs.Quorum.{is_group}

pub record Setting : Type 0 where
  pub core : ℕ
  pub least : ℕ
  pub members : ℕ → ℕ
  -- W0 is a set of heads, and W0 and Q make a group
  pub core-set : core < 65536
  pub grouped : is_group core least ≡ true
  pub members-set : (view : ℕ) → members view < 65536
