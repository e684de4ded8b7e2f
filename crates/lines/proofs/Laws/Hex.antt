-- Digits, the byte that two characters spell, and the end of the first line. By cases on the ranges of a digit, and by induction on the list.
use mathlib.Core.Path.{◌≡◌, refl, sym, ap, ◌∙◌}
use mathlib.Core.Bool.{Bool, true, false, cond, ◌&&◌}
use mathlib.Core.List.{List, [], ◌∷◌}
use mathlib.Core.Logic.{⊎_elim, ◌⊎◌, inl, inr}
use Prim.Native.Nat.{ℕ, zero, suc, ◌+◌, ◌-◌, ◌*◌, ◌/◌, ◌≤◌, ◌<◌}
use native.Mathlib.Nat.{not-suc-le-zero}
use native.Mathlib.Numerals.{add-one}
use native.Mathlib.Omega.{arith}
use borrow.Author.Tests.{leb-true}
use lib.ListN.{length, get_or, set, take, drop, length-drop}
use lib.Seq.{take-suc, take-suc-set, take_all}
use lib.Dec.{leb}
use Rattle.loops.specs.Below.{every}
use Rattle.loops.proofs.Laws.Truth.{and_left, and_right, or_cases}
use Rattle.loops.proofs.Laws.Tests.{every_append}
use Rattle.lines.specs.Hex.{is_digit, nib, unhex, line_end, rest_of}

-- ---- digits

pub digit-range : (c : ℕ) → is_digit c ≡ true → ((48 ≤ c) × (c ≤ 57)) ⊎ ((97 ≤ c) × (c ≤ 102))
unfolding is_digit
digit-range c h =
    ⊎_elim
    (λ w. inl (leb-true 48 c (and_left (leb 48 c) (leb c 57) w), leb-true c 57 (and_right (leb 48 c) (leb c 57) w)))
    (λ w. inr (leb-true 97 c (and_left (leb 97 c) (leb c 102) w), leb-true c 102 (and_right (leb 97 c) (leb c 102) w)))
    (or_cases (leb 48 c && leb c 57) (leb 97 c && leb c 102) h)

pub nib-lt : (c : ℕ) → nib c < 16
unfolding nib
nib-lt c = omega arith

-- as a loop takes it
pub every_take : (p : ℕ → Bool) (s : List ℕ) (i : ℕ) → i < length s → every p (take (i + 1) s) ≡ (every p (take i s) && p (get_or s i 0))
unfolding every
every_take p s i h =
    rw (add-one, take-suc s i 0)
    (every_append p (take i s) (get_or s i 0 ∷ []) ∙ ap (λ (b : Bool). every p (take i s) && b) (mathlib.Core.Bool.and-true (p (get_or s i 0))))

-- ---- a byte of two characters

pub unhex-at : (s : List ℕ) (at : ℕ) → at * 2 + 1 < length s → get_or (unhex s) at 0 ≡ nib (get_or s (at * 2) 0) * 16 + nib (get_or s (at * 2 + 1) 0)
unfolding unhex
unhex-at [] at h = absurd (not-suc-le-zero h)
unhex-at (a ∷ []) at h = absurd (omega arith)
unhex-at (a ∷ b ∷ s) zero h = refl
unhex-at (a ∷ b ∷ s) (suc k) h =
    let e : suc k * 2 ≡ suc (suc (k * 2)) = omega arith in
    let e' : suc k * 2 + 1 ≡ suc (suc (k * 2 + 1)) = omega arith in
    unhex-at s k (omega arith) ∙ rw (e', e)

pub length-unhex : (s : List ℕ) → length (unhex s) ≡ length s / 2
unfolding unhex
length-unhex [] = refl
length-unhex (a ∷ []) = refl
length-unhex (a ∷ b ∷ s) = omega (arith, length-unhex s)

pub byte-lt : (s : List ℕ) (k : ℕ) → get_or (unhex s) k 0 < 256
unfolding unhex
byte-lt [] k = omega arith
byte-lt (a ∷ []) k = omega arith
byte-lt (a ∷ b ∷ s) zero = omega (arith, nib-lt a, nib-lt b)
byte-lt (a ∷ b ∷ s) (suc k) = byte-lt s k

-- as a loop takes it, and when all bytes are there
pub decoded-more : (s f : List ℕ) (i : ℕ) → i * 2 + 1 < length s → i < length f → take i f ≡ take i (unhex s)
    → take (i + 1) (set f i (get_or (unhex s) i 0)) ≡ take (i + 1) (unhex s)
decoded-more s f i h l e =
    rw (add-one, take-suc-set f i (get_or (unhex s) i 0) l, take-suc (unhex s) i 0 (omega (arith, length-unhex s)), e)

pub decoded-pair : (s f n : List ℕ) (at k : ℕ) → at * 2 + 32 ≤ length s → k < 16 → at + k < length f
    → ((j : ℕ) → j < 32 → get_or n j 0 ≡ nib (get_or s (at * 2 + j) 0)) → take (at + k) f ≡ take (at + k) (unhex s)
    → take (at + (k + 1)) (set f (at + k) (get_or n (k * 2) 0 * 16 + get_or n (k * 2 + 1) 0)) ≡ take (at + (k + 1)) (unhex s)
decoded-pair s f n at k h b l v e =
    let p : (at + k) * 2 ≡ at * 2 + k * 2 = omega arith in
    let q : (at + k) * 2 + 1 ≡ at * 2 + (k * 2 + 1) = omega arith in
    let w : get_or n (k * 2) 0 * 16 + get_or n (k * 2 + 1) 0 ≡ get_or (unhex s) (at + k) 0 =
    omega (arith, v (k * 2) (omega arith), v (k * 2 + 1) (omega arith), ap (λ (j : ℕ). nib (get_or s j 0)) p, ap (λ (j : ℕ). nib (get_or s j 0)) q, unhex-at s (at + k) (omega arith)) in
    let z : at + (k + 1) ≡ at + k + 1 = omega arith in
    rw (z, w) (decoded-more s f (at + k) (omega arith) l e)

pub decoded-all : (s f : List ℕ) (i n : ℕ) → n ≡ length s / 2 → i ≡ n → take i f ≡ take i (unhex s) → take n f ≡ unhex s
decoded-all s f i n a b e =
    ap (λ (k : ℕ). take k f) (sym b) ∙ e ∙ take_all i (unhex s) (omega (arith, length-unhex s))

-- ---- the end of the line

-- what a part of a slice to its end holds
pub part-drop : (s : List ℕ) (a : ℕ) → take (length s - a) (drop a s) ≡ drop a s
part-drop s a = take_all (length s - a) (drop a s) (omega (arith, length-drop a s))

-- a walk over the lines ends
pub rest-shorter : (s : List ℕ) → 0 < length s → length (rest_of s) < length s
unfolding rest_of
rest-shorter s h = omega (arith, length-drop (suc (line_end s)) s)
