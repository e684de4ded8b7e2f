-- What the chains make of a line's characters: by induction on the list, and block by block.
use mathlib.Core.Path.{◌≡◌, refl, sym, ap, ◌∙◌}
use mathlib.Core.Bool.{Bool, true, false, cond, not, ◌||◌}
use mathlib.Core.List.{List, [], ◌∷◌, ◌++◌}
use Prim.Native.Nat.{ℕ, zero, suc, ◌+◌, ◌*◌, ◌≤◌, ◌<◌}
use native.Mathlib.Omega.{arith}
use borrow.Author.Tests.{ltb-false}
use lib.Dec.{eqb, ltb}
use lib.ListN.{length, get_or, take, drop, length-drop}
use lib.Seq.{drop-drop, length-take-le}
use Rattle.std.proofs.Common.{Some, None, take-append-drop}
use Rattle.std.specs.List.{fold, list_any, position, position_or_len}
use Rattle.std.specs.Option.{unwrap_or}
use Rattle.std.specs.Simd.{first_chunks}
use Rattle.lines.specs.Hex.{line_end}

-- ---- a fold of the test

abbrev pub newline : ℕ → Bool
newline c = eqb c 10

or-fold : (b : Bool) (s : List ℕ) → fold (λ (found : Bool) (c : ℕ). found || eqb c 10) b s ≡ (b || list_any newline s)
or-fold true [] = refl
or-fold false [] = refl
or-fold true (c ∷ s) = or-fold true s
or-fold false (c ∷ s) = or-fold (eqb c 10) s

-- ---- a block

pub block-at : (k i : ℕ) (s : List ℕ) → i < k → get_or (first_chunks 32 k s) i [] ≡ take 32 (drop (i * 32) s)
block-at zero i s h = absurd (omega arith)
block-at (suc k) zero s h = refl
block-at (suc k) (suc i) s h =
    let e : 32 + i * 32 ≡ suc i * 32 = omega arith in
    block-at k i (drop 32 s) (omega arith) ∙ ap (take 32) (drop-drop (i * 32) 32 s ∙ ap (λ (m : ℕ). drop m s) e)

-- ---- the newline

module _ {X : Type 0} (p : X → Bool) where
  position-le : (xs : List X) → position_or_len p xs ≤ length xs
  position-le [] = omega arith
  position-le (x ∷ xs) = go (position-le xs) (p x)
    where
      go : position_or_len p xs ≤ length xs → (b : Bool) → cond (not b) (1 + position_or_len p xs) 0 ≤ suc (length xs)
      go v true = omega arith
      go v false = omega (arith, v)

  pub position-or-end : (xs : List X) → unwrap_or (position p xs) (length xs) ≡ position_or_len p xs
  position-or-end xs = go (ltb (position_or_len p xs) (length xs)) refl
    where
      go : (b : Bool) → ltb (position_or_len p xs) (length xs) ≡ b → unwrap_or (cond b (Some (position_or_len p xs)) None) (length xs) ≡ position_or_len p xs
      go true e = refl
      go false e = omega (arith, ltb-false (position_or_len p xs) (length xs) e, position-le xs)

pub first-newline : (s : List ℕ) → position_or_len newline s ≡ line_end s
unfolding line_end
first-newline [] = refl
first-newline (c ∷ s) = go (first-newline s) (eqb c 10)
  where
    go : position_or_len newline s ≡ line_end s → (b : Bool) → cond (not b) (1 + position_or_len newline s) 0 ≡ cond b 0 (suc (line_end s))
    go v true = refl
    go v false = omega (arith, v)

none-before : (t u : List ℕ) → list_any newline t ≡ false → line_end (t ++ u) ≡ length t + line_end u
unfolding line_end
none-before [] u e = omega arith
none-before (c ∷ t) u e = go (none-before t u) (eqb c 10) e
  where
    go : (list_any newline t ≡ false → line_end (t ++ u) ≡ length t + line_end u) → (b : Bool) → (b || list_any newline t) ≡ false → cond b 0 (suc (line_end (t ++ u))) ≡ suc (length t) + line_end u
    go v true f = let z : ⊥ = cc in absurd z
    go v false f = omega (arith, v f)

-- past one more block that has none
pub block-passed : (s : List ℕ) (k i : ℕ) → i < k → k * 32 ≤ length s → fold (λ (found : Bool) (c : ℕ). found || eqb c 10) false (get_or (first_chunks 32 k s) i []) ≡ false
    → line_end (drop (i * 32) s) ≡ 32 + line_end (drop ((i + 1) * 32) s)
block-passed s k i h l e =
    let t = take 32 (drop (i * 32) s) in
    let none : list_any newline t ≡ false = sym (or-fold false t) ∙ ap (fold (λ (found : Bool) (c : ℕ). found || eqb c 10) false) (sym (block-at k i s h)) ∙ e in
    let rest : drop 32 (drop (i * 32) s) ≡ drop ((i + 1) * 32) s = drop-drop 32 (i * 32) s ∙ ap (λ (j : ℕ). drop j s) (let q : i * 32 + 32 ≡ (i + 1) * 32 = omega arith in q) in
    let n : length t ≡ 32 = length-take-le 32 (drop (i * 32) s) (omega (arith, length-drop (i * 32) s)) in
    omega (arith, ap line_end (sym (take-append-drop 32 (drop (i * 32) s))) ∙ none-before t (drop 32 (drop (i * 32) s)) none, n, ap line_end rest)
