-- Hexadecimal there and back, and the first line of a text that begins with digits and a newline. By cases on a digit's range, and by induction on the list.
use mathlib.Core.Path.{◌≡◌, refl, ap, ap₂, ◌∙◌}
use mathlib.Core.Bool.{Bool, true, false, cond, ◌&&◌}
use mathlib.Core.List.{List, [], ◌∷◌, ◌++◌}
use mathlib.Core.Logic.{⊎_elim}
use Prim.Native.Nat.{ℕ, suc, ◌+◌, ◌-◌, ◌*◌, ◌/◌, ◌%◌, ◌≤◌, ◌<◌}
use native.Mathlib.Nat.{not-suc-le-zero}
use native.Mathlib.Omega.{arith}
use borrow.Author.Tests.{ltb-true, ltb-false, le-leb, lt-leb, lt-ltb, le-ltb, eqb-true, ne_eqb}
use lib.ListN.{length, get_or}
use lib.Dec.{ltb, leb, eqb}
use Rattle.loops.specs.Below.{every}
use Rattle.loops.proofs.Laws.Truth.{and_left, and_right}
use Rattle.lines.specs.Hex.{is_digit, digit, nib, hex_of, unhex, line_end, line_of, rest_of}
use Rattle.lines.proofs.Laws.Hex.{digit-range, nib-lt}

-- every element is below a limit; bytes are below 256
abbrev pub Below : ℕ → List ℕ → Type 0
Below b l = (k : ℕ) → get_or l k 0 < b

abbrev pub Bytes : List ℕ → Type 0
Bytes f = Below 256 f

-- ---- a digit

nib-low : (c : ℕ) → 48 ≤ c → c ≤ 57 → nib c ≡ c - 48
unfolding nib
nib-low c h k =
    let a : c / 64 ≡ 0 = omega arith in
    let b : c % 16 ≡ c - 48 = omega arith in
    rw (a, b) (omega arith)

nib-high : (c : ℕ) → 97 ≤ c → c ≤ 102 → nib c ≡ c - 87
unfolding nib
nib-high c h k =
    let a : c / 64 ≡ 1 = omega arith in
    let b : c % 16 ≡ c - 96 = omega arith in
    rw (a, b) (omega arith)

nib-digit : (n : ℕ) → n < 16 → (is_digit (digit n) ≡ true) × (nib (digit n) ≡ n)
unfolding digit is_digit
nib-digit n h = go (ltb n 10) refl
  where
    go : (b : Bool) → ltb n 10 ≡ b → (is_digit (cond b (n + 48) (n + 87)) ≡ true) × (nib (cond b (n + 48) (n + 87)) ≡ n)
    go true e =
        let k = ltb-true n 10 e in
        let a : leb 48 (n + 48) ≡ true = le-leb 48 (n + 48) (omega arith) in
        let b : leb (n + 48) 57 ≡ true = le-leb (n + 48) 57 (omega arith) in
        (simp (a, b), nib-low (n + 48) (omega arith) (omega arith) ∙ omega arith)
    go false e =
        let k = ltb-false n 10 e in
        let b : leb (n + 87) 57 ≡ false = lt-leb (n + 87) 57 (omega arith) in
        let c : leb 97 (n + 87) ≡ true = le-leb 97 (n + 87) (omega arith) in
        let d : leb (n + 87) 102 ≡ true = le-leb (n + 87) 102 (omega arith) in
        let a : leb 48 (n + 87) ≡ true = le-leb 48 (n + 87) (omega arith) in
        (simp (a, b, c, d), nib-high (n + 87) (omega arith) (omega arith) ∙ omega arith)

digit-nib : (c : ℕ) → is_digit c ≡ true → digit (nib c) ≡ c
unfolding digit
digit-nib c h = ⊎_elim low high (digit-range c h)
  where
    low : (48 ≤ c) × (c ≤ 57) → digit (nib c) ≡ c
    low w =
        let e = nib-low c w.0 w.1 in
        let b : ltb (nib c) 10 ≡ true = lt-ltb (nib c) 10 (omega arith) in
        simp b (omega arith)

    high : (97 ≤ c) × (c ≤ 102) → digit (nib c) ≡ c
    high w =
        let e = nib-high c w.0 w.1 in
        let b : ltb (nib c) 10 ≡ false = le-ltb (nib c) 10 (omega arith) in
        simp b (omega arith)

-- ---- a frame

pub hex-unhex : (s : List ℕ) → every is_digit s ≡ true → length s ≡ length (unhex s) * 2 → hex_of (unhex s) ≡ s
unfolding hex_of unhex every
hex-unhex [] d e = refl
hex-unhex (a ∷ []) d e = absurd (omega arith)
hex-unhex (a ∷ b ∷ s) d e =
    let da = and_left (is_digit a) (is_digit b && every is_digit s) d in
    let r = and_right (is_digit a) (is_digit b && every is_digit s) d in
    let db = and_left (is_digit b) (every is_digit s) r in
    let hi : (nib a * 16 + nib b) / 16 ≡ nib a = omega (arith, nib-lt b) in
    let lo : (nib a * 16 + nib b) % 16 ≡ nib b = omega (arith, nib-lt b) in
    ap₂ (λ (x y : ℕ). digit x ∷ (digit y ∷ hex_of (unhex s))) hi lo
    ∙ (ap₂ (λ (x y : ℕ). x ∷ (y ∷ hex_of (unhex s))) (digit-nib a da) (digit-nib b db)
    ∙ ap (λ (x : List ℕ). a ∷ (b ∷ x)) (hex-unhex s (and_right (is_digit b) (every is_digit s) r) (omega arith)))

pub unhex-hex : (f : List ℕ) → Bytes f → unhex (hex_of f) ≡ f
unfolding hex_of unhex
unhex-hex [] h = refl
unhex-hex (b ∷ f) h =
    let k : b < 256 = h 0 in
    let hi = nib-digit (b / 16) (omega arith) in
    let lo = nib-digit (b % 16) (omega arith) in
    let e : nib (digit (b / 16)) * 16 + nib (digit (b % 16)) ≡ b = omega (arith, hi.1, lo.1) in
    ap₂ (λ (x : ℕ) (y : List ℕ). x ∷ y) e (unhex-hex f (λ k. h (suc k)))

pub digits-hex : (f : List ℕ) → Bytes f → every is_digit (hex_of f) ≡ true
unfolding hex_of every
digits-hex [] h = refl
digits-hex (b ∷ f) h =
    let k : b < 256 = h 0 in
    simp ((nib-digit (b / 16) (omega arith)).0, (nib-digit (b % 16) (omega arith)).0, digits-hex f (λ k. h (suc k)))

-- ---- the first line

digit-not-end : (c : ℕ) → is_digit c ≡ true → eqb c 10 ≡ false
digit-not-end c h = ne_eqb c 10 (λ e. ⊎_elim {C = ⊥} (λ w. omega arith) (λ w. omega arith) (digit-range c h))

pub line-end-digits : (x r : List ℕ) → every is_digit x ≡ true → line_end (x ++ (10 ∷ r)) ≡ length x
unfolding line_end every
line-end-digits [] r d = refl
line-end-digits (c ∷ x) r d =
    rw (digit-not-end c (and_left (is_digit c) (every is_digit x) d)) (ap suc (line-end-digits x r (and_right (is_digit c) (every is_digit x) d)))

-- a text with a newline is its first line, the newline and the rest
pub first-split : (s : List ℕ) → line_end s < length s → s ≡ (line_of s ++ (10 ∷ [])) ++ rest_of s
unfolding line_end line_of rest_of
first-split [] h = absurd (not-suc-le-zero h)
first-split (c ∷ s) h = go (eqb c 10) refl (first-split s)
  where
    go : (b : Bool) → eqb c 10 ≡ b → (line_end s < length s → s ≡ (line_of s ++ (10 ∷ [])) ++ rest_of s) → c ∷ s ≡ (line_of (c ∷ s) ++ (10 ∷ [])) ++ rest_of (c ∷ s)
    go true e ih = simp e (ap (λ (x : ℕ). x ∷ s) (eqb-true c 10 e))
    go false e ih =
        let k : suc (line_end s) < suc (length s) = simp e at h in
        simp e (ap (λ (x : List ℕ). c ∷ x) (ih (omega arith)))
