-- The chain's count of views, read over histories: a view that nobody is a member of is entered by nobody, so it need not count.
use mathlib.Core.Bool.{true}
use mathlib.Core.Path.{◌≡◌, refl}
use mathlib.Core.List.{Memᴰ}
use Prim.Native.Nat.{ℕ, ◌≤◌, ◌<◌}
use Rattle.group.specs.Heads.{has}
use Rattle.group.specs.Words.{num}
use Rattle.chain.specs.Words.{sess}
use Rattle.chain.specs.Quorum.{group_of}
use Rattle.chain.proofs.Laws.Counted.{formed-counted}
use Rattle.history.specs.Setting.{Setting}
use Rattle.history.specs.Statement.{World, History}
use Rattle.history.proofs.Abstraction.{group_in, world_of}
use Rattle.history.proofs.Theorem.{fine}

-- each view with a member counts above every lower view
abbrev pub Counts : Setting → (ℕ → ℕ) → Type 0
Counts S c = (u v x : ℕ) → u < v → x < 16 → has (S.members v) x ≡ true → c u < c v

-- a formed session's number is at most the count of some view
pub formed-bounded : (S : Setting) (c : ℕ → ℕ) → Counts S c → (W : World) → History S W → (w : ℕ) → Memᴰ w W.formed → (v : ℕ) × (num w ≤ c v)
unfolding world_of group_of
formed-bounded S c up W h w d = formed-counted (group_in S) c (λ u v x l (i, e). up u v x l i e) (fine S h).reached (sess w) (w, d, refl)
