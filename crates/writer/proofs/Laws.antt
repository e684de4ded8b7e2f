-- The bytes of numbers, high byte first, and the words of a block.
use mathlib.Core.Path.{◌≡◌, refl, ap, ◌∙◌}
use mathlib.Core.List.{List, [], ◌∷◌, ◌++◌}
use Prim.Native.Nat.{ℕ, zero, suc, ◌+◌, ◌*◌, ◌/◌, ◌%◌, ◌<◌}
use native.Mathlib.Omega.{arith}
use lib.ListN.{length, get_or, take, drop}
use lib.Seq.{drop-drop}
use Rattle.std.specs.Int.{byte_at}
use Rattle.std.specs.Simd.{first_chunks}
use Rattle.std.specs.List.{flat_map}
use Rattle.loops.specs.Below.{table}
use Rattle.lines.specs.Writing.{bytes2, bytes4, bytes6, flat}

pub four-bytes : (v : ℕ) → (byte_at 3 v ∷ byte_at 2 v ∷ byte_at 1 v ∷ byte_at 0 v ∷ []) ≡ bytes4 v
unfolding bytes4 bytes2
four-bytes v =
    let a : v / 16777216 % 256 ≡ v / 65536 / 256 % 256 = omega arith in
    let b : v / 65536 % 256 ≡ v / 65536 % 256 = refl in
    let c : v / 256 % 256 ≡ v % 65536 / 256 % 256 = omega arith in
    let d : v % 256 ≡ v % 65536 % 256 = omega arith in
    cc

pub six-bytes : (w : ℕ) → (byte_at 5 w ∷ byte_at 4 w ∷ byte_at 3 w ∷ byte_at 2 w ∷ byte_at 1 w ∷ byte_at 0 w ∷ []) ≡ bytes6 w
unfolding bytes6 bytes4 bytes2
six-bytes w =
    let a : w / 1099511627776 % 256 ≡ w / 65536 / 65536 / 256 % 256 = omega arith in
    let b : w / 4294967296 % 256 ≡ w / 65536 / 65536 % 256 = omega arith in
    let c : w / 16777216 % 256 ≡ w / 65536 % 65536 / 256 % 256 = omega arith in
    let d : w / 65536 % 256 ≡ w / 65536 % 65536 % 256 = omega arith in
    let e : w / 256 % 256 ≡ w % 65536 / 256 % 256 = omega arith in
    let f : w % 256 ≡ w % 65536 % 256 = omega arith in
    cc

pub eight-at : (k i : ℕ) (s : List ℕ) → i < k → get_or (first_chunks 8 k s) i [] ≡ take 8 (drop (i * 8) s)
eight-at zero i s h = absurd (omega arith)
eight-at (suc k) zero s h = refl
eight-at (suc k) (suc i) s h =
    let e : 8 + i * 8 ≡ suc i * 8 = omega arith in
    eight-at k i (drop 8 s) (omega arith) ∙ ap (take 8) (drop-drop (i * 8) 8 s ∙ ap (λ (m : ℕ). drop m s) e)

pub flat-table : (n : ℕ) (ws : List ℕ) → length ws ≡ n → flat_map (λ (x : List ℕ). x) (table n (λ k. bytes6 (get_or ws k 0))) ≡ flat ws
unfolding table flat
flat-table zero [] e = refl
flat-table zero (w ∷ ws) e = absurd (omega (arith, e))
flat-table (suc n) [] e = absurd (omega (arith, e))
flat-table (suc n) (w ∷ ws) e = ap (λ (x : List ℕ). bytes6 w ++ x) (flat-table n ws (omega (arith, e)))
