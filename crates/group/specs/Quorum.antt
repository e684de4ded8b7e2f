-- The quorum test of document 01. `core` is W0, `least` is Q, `top s` is the head that breaks a tie in s.
use Rattle.std.specs.Prelude.{Bool, not, ◌&&◌, ◌||◌, cond, ℕ, ◌-◌, ◌*◌, leb, ltb, eqb}
use Rattle.group.specs.Heads.{has, size, empty, shared, highest}
use Rattle.group.specs.Answers.{Verdict, holds, fails, refuses}

-- "T has at least Q heads of W0"
unfoldable pub enough : ℕ → ℕ → ℕ → Bool
enough core least t = leb least (shared core t)

-- "the number of heads of S that are in T, doubled, exceeds the size of S"
unfoldable pub majority : ℕ → ℕ → Bool
majority s t = ltb (size s) (2 * shared s t)

-- "doubled, it equals the size of S, S is not empty, and the highest-numbered head of S is in T"
unfoldable pub tied : (ℕ → ℕ) → ℕ → ℕ → Bool
tied top s t = eqb (2 * shared s t) (size s) && not (empty s) && has t (top s)

-- "T has more heads of W0 than the size of W0 less Q"
unfoldable pub blocking : ℕ → ℕ → ℕ → Bool
blocking core least t = ltb (size core - least) (shared core t)

-- "Sub-quorum of S by T holds exactly when T has at least Q heads of W0 and one of these holds"; "It is false for S none, given as the empty set"
unfoldable pub passes : (ℕ → ℕ) → ℕ → ℕ → ℕ → ℕ → Bool
passes top core least s t = not (empty s) && enough core least t && (majority s t || tied top s t || blocking core least t)

-- what refusal 1 leaves: not "W0 empty, Q over its size; quorum test: Q 0"
unfoldable pub is_group : ℕ → ℕ → Bool
is_group core least = not (empty core) && not (eqb least 0) && leb least (size core)

-- the call, for any numbers; the highest-numbered head breaks a tie
unfoldable pub quorum_test : ℕ → ℕ → ℕ → ℕ → Verdict
quorum_test core least s t = cond (is_group core least) (cond (passes highest core least s t) holds fails) (refuses 1)
