-- What a written line is, and the four that are kept.
use mathlib.Core.Bool.{Bool, false, not}
use mathlib.Core.List.{List, [], ◌∷◌}
use mathlib.Core.Path.{◌≡◌, refl, sym, ◌∙◌}
use Prim.Native.Nat.{ℕ, ◌≤◌}
use native.Mathlib.Omega.{arith}
use borrow.Author.Tests.{not-false, leb-true}
use lib.Dec.{ltb, leb}
use lib.ListN.{length, get_or}
use Rattle.loops.proofs.Laws.Truth.{and_right}
use Rattle.keeping.specs.declared.Kept.{Kept}
use Rattle.keeping.specs.Keeping.{pushed, is_line}

pub push_is : (k : Kept) (sent : List Kept) (d : Kept) → length sent ≡ 4 → (k ∷ get_or sent 0 d ∷ get_or sent 1 d ∷ get_or sent 2 d ∷ []) ≡ pushed k sent
unfolding pushed
push_is k [] d e = absurd (omega (arith, e))
push_is k (x ∷ []) d e = absurd (omega (arith, e))
push_is k (x ∷ y ∷ []) d e = absurd (omega (arith, e))
push_is k (x ∷ y ∷ z ∷ l) d e = refl

pub line-long : (n : ℕ) (b : Bool) → b ≡ is_line n → not b ≡ false → n ≤ 419
unfolding is_line
line-long n b e f = leb-true n 419 (and_right (ltb 0 n) (leb n 419) (sym e ∙ not-false b f))
