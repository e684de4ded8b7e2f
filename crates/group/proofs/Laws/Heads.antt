-- Laws of sets of heads: membership, size, equality by members, and what the machine's counts of bits say. A head more is a half of the
-- number, so each law is an induction on bits; sizes are counts, so their laws are `count_below`'s.
use mathlib.Core.Path.{◌≡◌, refl, sym, ap, ap₂, ◌∙◌, subst}
use mathlib.Core.Bool.{Bool, true, false, not, ◌&&◌, ◌||◌}
use Prim.Native.Nat.{ℕ, zero, suc, ◌+◌, ◌-◌, ◌*◌, ◌/◌, ◌%◌, ◌^◌, ◌≤◌, ◌<◌, zero-le, suc-le-suc, min, max}
use native.Mathlib.Nat.{le_refl, le_trans, le_of_suc-le-suc, not-suc-le-zero, zero-lt-suc, lt_irrefl, pow-suc, mod-lt, div-one, div-eq_of_lt, lt_of_lt_of_le, zero-min, zero-max, div-eq_of_lt-le, mul-div_cancel, lt_of_not-le, one-mul}
use native.Mathlib.Numerals.{one-add}
use native.Mathlib.Omega.{arith}
use lib.Dec.{eqb, eqb-zero-suc, eqb-suc-zero, eqb-suc-suc, lit<}
use lib.Arith.{lt-one, digits_mod}
use lib.Pow.{pow_pos, pow_mono, pow-lt, shr-shr, shl_exact}
use lib.Bits.{bit_and, bit_or, and_shr, or_shr, and_step, or_step, and_le_l, or_lt}
use lib.Count.{ones, ones_step, count_leading_zeros, leading_top}
use borrow.Author.Tests.{eq-eqb, eqb-true}
use Rattle.loops.specs.Below.{fold_below, last_below, bit, count_below}
use Rattle.group.specs.Heads.{has, size, empty, common, either, less, only, within, highest, Share}
use Rattle.loops.proofs.Laws.Truth.{clash, and_left, and_right, and_both, fails-if, not-both, test-ext}
use Rattle.loops.proofs.Laws.Count.{count-cong, count-front, count-le, count-overlap, count-mono, count-find, count-pos}
use Rattle.loops.proofs.Laws.Last.{last-is, last-member}

two_pos : zero < 2
two_pos = zero-lt-suc 1

-- ---- a head more is a half

halved : (s h : ℕ) → s / 2 ^ suc h ≡ s / 2 / 2 ^ h
halved s h = ap (λ (k : ℕ). s / 2 ^ k) (sym (one-add h)) ∙ sym (shr-shr s 1 h)

pub has-zero : (s : ℕ) → has s 0 ≡ eqb (s % 2) 1
unfolding has
has-zero s = ap (λ (x : ℕ). eqb (x % 2) 1) (div-one s)

pub has-suc : (s h : ℕ) → has s (suc h) ≡ has (s / 2) h
unfolding has
has-suc s h = ap (λ (x : ℕ). eqb (x % 2) 1) (halved s h)

-- ---- membership

digit_and : (x y : ℕ) → x < 2 → y < 2 → eqb (min x y) 1 ≡ eqb x 1 && eqb y 1
digit_and zero y hx hy = ap (λ (x : ℕ). eqb x 1) (zero-min y)
digit_and (suc zero) zero hx hy = refl
digit_and (suc zero) (suc zero) hx hy = refl
digit_and (suc zero) (suc (suc y)) hx hy = absurd (not-suc-le-zero (le_of_suc-le-suc (le_of_suc-le-suc hy)))
digit_and (suc (suc x)) y hx hy = absurd (not-suc-le-zero (le_of_suc-le-suc (le_of_suc-le-suc hx)))

digit_or : (x y : ℕ) → x < 2 → y < 2 → eqb (max x y) 1 ≡ eqb x 1 || eqb y 1
digit_or zero y hx hy = ap (λ (x : ℕ). eqb x 1) (zero-max y)
digit_or (suc zero) zero hx hy = refl
digit_or (suc zero) (suc zero) hx hy = refl
digit_or (suc zero) (suc (suc y)) hx hy = absurd (not-suc-le-zero (le_of_suc-le-suc (le_of_suc-le-suc hy)))
digit_or (suc (suc x)) y hx hy = absurd (not-suc-le-zero (le_of_suc-le-suc (le_of_suc-le-suc hx)))

low_and : (a b : ℕ) → bit_and a b % 2 ≡ min (a % 2) (b % 2)
low_and a b = ap (λ (x : ℕ). x % 2) (and_step a b) ∙ digits_mod (bit_and (a / 2) (b / 2)) {m = 2} (omega arith)

low_or : (a b : ℕ) → bit_or a b % 2 ≡ max (a % 2) (b % 2)
low_or a b = ap (λ (x : ℕ). x % 2) (or_step a b) ∙ digits_mod (bit_or (a / 2) (b / 2)) {m = 2} (omega arith)

pub has-common : (s t h : ℕ) → has (common s t) h ≡ has s h && has t h
unfolding has common
has-common s t h =
    ap (λ (x : ℕ). eqb (x % 2) 1) (and_shr s t h) ∙ ap (λ (x : ℕ). eqb x 1) (low_and (s / 2 ^ h) (t / 2 ^ h))
    ∙ digit_and (s / 2 ^ h % 2) (t / 2 ^ h % 2) (mod-lt (s / 2 ^ h) two_pos) (mod-lt (t / 2 ^ h) two_pos)

pub has_either : (s t h : ℕ) → has (either s t) h ≡ has s h || has t h
unfolding has either
has_either s t h =
    ap (λ (x : ℕ). eqb (x % 2) 1) (or_shr s t h) ∙ ap (λ (x : ℕ). eqb x 1) (low_or (s / 2 ^ h) (t / 2 ^ h))
    ∙ digit_or (s / 2 ^ h % 2) (t / 2 ^ h % 2) (mod-lt (s / 2 ^ h) two_pos) (mod-lt (t / 2 ^ h) two_pos)

-- nothing above the set's length
pub has-high : (k s h : ℕ) → s < 2 ^ k → k ≤ h → has s h ≡ false
unfolding has
has-high k s h b l = ap (λ (x : ℕ). eqb (x % 2) 1) (div-eq_of_lt (lt_of_lt_of_le b (pow_mono l)))

pub has-below : (s h : ℕ) → s < 2 ^ 16 → has s h ≡ true → h < 16
has-below s h b t = lt_of_not-le (λ l. not-both (has s h) t (has-high 16 s h b l))

pub has-none : (h : ℕ) → has 0 h ≡ false
has-none h = has-high 0 0 h (le_refl 1) zero-le

-- a set of one head
pub has-only : (h j : ℕ) → has (only h) j ≡ eqb h j
unfolding has only
has-only zero zero = refl
has-only zero (suc j) = has-high 1 1 (suc j) (lit< tt) (suc-le-suc zero-le) ∙ sym (eqb-zero-suc j)
has-only (suc h) zero =
    let e = pow-suc 2 h in
    let even : 2 ^ suc h % 2 ≡ 0 = omega arith in
    has-zero (2 ^ suc h) ∙ ap (λ (x : ℕ). eqb x 1) even ∙ sym (eqb-suc-zero h)
has-only (suc h) (suc j) =
    has-suc (2 ^ suc h) j ∙ ap (λ (x : ℕ). has x j) (ap (λ (x : ℕ). x / 2) (pow-suc 2 h) ∙ mul-div_cancel (2 ^ h) two_pos) ∙ has-only h j ∙ sym (eqb-suc-suc h j)

-- the complement, and the heads of s that are not in t
digit_not : (x : ℕ) → x < 2 → eqb (1 - x) 1 ≡ not (eqb x 1)
digit_not zero h = refl
digit_not (suc zero) h = refl
digit_not (suc (suc x)) h = absurd (not-suc-le-zero (le_of_suc-le-suc (le_of_suc-le-suc h)))

has-not : (k t h : ℕ) → t < 2 ^ k → h < k → has (2 ^ k - 1 - t) h ≡ not (has t h)
has-not zero t h b l = absurd (not-suc-le-zero l)
has-not (suc k) t zero b l =
    let e = pow-suc 2 k in
    let p = pow_pos k in
    let low : (2 ^ suc k - 1 - t) % 2 ≡ 1 - t % 2 = omega arith in
    has-zero (2 ^ suc k - 1 - t) ∙ ap (λ (x : ℕ). eqb x 1) low ∙ digit_not (t % 2) (mod-lt t two_pos) ∙ ap not (sym (has-zero t))
has-not (suc k) t (suc h) b l =
    let e = pow-suc 2 k in
    let p = pow_pos k in
    let high : (2 ^ suc k - 1 - t) / 2 ≡ 2 ^ k - 1 - t / 2 = omega arith in
    has-suc (2 ^ suc k - 1 - t) h ∙ ap (λ (x : ℕ). has x h) high ∙ has-not k (t / 2) h (omega arith) (le_of_suc-le-suc l) ∙ ap not (sym (has-suc t h))

pub has-less : (s t h : ℕ) → t < 2 ^ 16 → h < 16 → has (less s t) h ≡ has s h && not (has t h)
unfolding less common
has-less s t h b l = has-common s (65535 - t) h ∙ ap (λ (x : Bool). has s h && x) (has-not 16 t h b l)

-- ---- equality by members

digit-eq : (x y : ℕ) → x < 2 → y < 2 → eqb x 1 ≡ eqb y 1 → x ≡ y
digit-eq zero zero hx hy e = refl
digit-eq zero (suc zero) hx hy e = absurd (clash (sym e))
digit-eq (suc zero) zero hx hy e = absurd (clash e)
digit-eq (suc zero) (suc zero) hx hy e = refl
digit-eq zero (suc (suc y)) hx hy e = absurd (not-suc-le-zero (le_of_suc-le-suc (le_of_suc-le-suc hy)))
digit-eq (suc zero) (suc (suc y)) hx hy e = absurd (not-suc-le-zero (le_of_suc-le-suc (le_of_suc-le-suc hy)))
digit-eq (suc (suc x)) y hx hy e = absurd (not-suc-le-zero (le_of_suc-le-suc (le_of_suc-le-suc hx)))

same_of : (k a b : ℕ) → a < 2 ^ k → b < 2 ^ k → ((h : ℕ) → h < k → has a h ≡ has b h) → a ≡ b
same_of zero a b ha hb e = lt-one ha ∙ sym (lt-one hb)
same_of (suc k) a b ha hb e =
    let p = pow-suc 2 k in
    let low : a % 2 ≡ b % 2 = digit-eq (a % 2) (b % 2) (mod-lt a two_pos) (mod-lt b two_pos) (sym (has-zero a) ∙ e 0 (zero-lt-suc k) ∙ has-zero b) in
    let high : a / 2 ≡ b / 2 = same_of k (a / 2) (b / 2) (omega arith) (omega arith) (λ h l. sym (has-suc a h) ∙ e (suc h) (suc-le-suc l) ∙ has-suc b h) in
    omega arith

pub same-heads : (a b : ℕ) → a < 2 ^ 16 → b < 2 ^ 16 → ((h : ℕ) → h < 16 → has a h ≡ has b h) → a ≡ b
same-heads = same_of 16

-- ---- size

pub size-le : (s : ℕ) → size s ≤ 16
unfolding size
size-le s = count-le 16 (has s)

pub size_mono : (s t : ℕ) → ((h : ℕ) → h < 16 → has s h ≡ true → has t h ≡ true) → size s ≤ size t
unfolding size
size_mono s t f = count-mono 16 (has s) (has t) f

pub size-find : (s : ℕ) → 0 < size s → (h : ℕ) × (h < 16) × (has s h ≡ true)
unfolding size
size-find s p = count-find 16 (has s) p

pub size-pos : (s h : ℕ) → h < 16 → has s h ≡ true → 0 < size s
unfolding size
size-pos s h l t = count-pos 16 (has s) h l t

-- two parts of p, larger together than p, have a head in common
pub size-overlap : (p s t : ℕ) → size (common p s) + size (common p t) ≤ size p + size (common s t)
unfolding size
size-overlap p s t =
    let e : (a b : ℕ) → size (common a b) ≡ count_below 16 (λ i. has a i && has b i) = λ a b. count-cong 16 (has (common a b)) (λ i. has a i && has b i) (λ i l. has-common a b i) in
    omega (arith, e p s, e p t, e s t, count-overlap 16 (has p) (has s) (has t))

pub share-found : (s t : ℕ) → 0 < size (common s t) → Share s t
share-found s t p =
    let r = size-find (common s t) p in
    let both = sym (has-common s t r.0) ∙ r.2 in
    (r.0, r.1, and_left (has s r.0) (has t r.0) both, and_right (has s r.0) (has t r.0) both)

-- for a mask, size 0 is the mask 0
pub size-zero : (s : ℕ) → s < 2 ^ 16 → size s ≡ 0 → s ≡ 0
size-zero s b e =
    same-heads s 0 b (lit< tt) (λ h l. fails-if (has s h) (λ t. lt_irrefl 0 (subst (λ (x : ℕ). 0 < x) e (size-pos s h l t))) ∙ sym (has-none h))

pub size_none : size 0 ≡ 0
unfolding size count_below fold_below has
size_none = refl

-- the machine's count of ones is the size
digit-bit : (x : ℕ) → x < 2 → x ≡ bit (eqb x 1)
digit-bit zero h = refl
digit-bit (suc zero) h = refl
digit-bit (suc (suc x)) h = absurd (not-suc-le-zero (le_of_suc-le-suc (le_of_suc-le-suc h)))

ones-count : (k s : ℕ) → s < 2 ^ k → ones s ≡ count_below k (has s)
unfolding ones count_below fold_below
ones-count zero s b = ap ones (lt-one b)
ones-count (suc k) s b =
    let p = pow-suc 2 k in
    ones_step s
    ∙ ap₂ ◌+◌ (digit-bit (s % 2) (mod-lt s two_pos) ∙ ap bit (sym (has-zero s)))
    (ones-count k (s / 2) (omega arith) ∙ count-cong k (has (s / 2)) (λ j. has s (suc j)) (λ j l. sym (has-suc s j)))
    ∙ sym (count-front k (has s))

pub ones-size : (s : ℕ) → s < 2 ^ 16 → ones s ≡ size s
unfolding size
ones-size s b = ones-count 16 s b

pub common-lt : (s t : ℕ) → s < 2 ^ 16 → common s t < 2 ^ 16
unfolding common
common-lt s t b = le_trans (suc-le-suc (and_le_l s t)) b

pub either_lt : (s t : ℕ) → s < 2 ^ 16 → t < 2 ^ 16 → either s t < 2 ^ 16
unfolding either
either_lt s t a b = or_lt 16 s t a b

-- ---- subsets

pub within-at : (s t : ℕ) → within s t ≡ true → (h : ℕ) → has s h ≡ true → has t h ≡ true
unfolding within
within-at s t w h m =
    and_right (has s h) (has t h) (sym (has-common s t h) ∙ ap (λ (x : ℕ). has x h) (eqb-true (common s t) s w) ∙ m)

pub within_of : (s t : ℕ) → s < 2 ^ 16 → ((h : ℕ) → h < 16 → has s h ≡ true → has t h ≡ true) → within s t ≡ true
unfolding within
within_of s t b f =
    eq-eqb (common s t) s
    (same-heads (common s t) s (common-lt s t b) b
    (λ h l. has-common s t h ∙ test-ext (has s h && has t h) (has s h) (and_left (has s h) (has t h)) (λ m. and_both (has s h) (has t h) m (f h l m))))

-- ---- the highest head

at_top : (s j : ℕ) → 2 ^ j ≤ s → s < 2 ^ suc j → has s j ≡ true
unfolding has
at_top s j l b =
    let e = pow-suc 2 j in
    let q : s / 2 ^ j ≡ 1 = div-eq_of_lt-le {k = 1} (2 ^ j) (omega arith) (omega arith) in
    ap (λ (x : ℕ). eqb (x % 2) 1) q

pub highest-is : (s j : ℕ) → j < 16 → 2 ^ j ≤ s → s < 2 ^ suc j → highest s ≡ j
unfolding highest
highest-is s j h l b = last-is 16 (has s) j h (at_top s j l b) (λ i a c t. not-both (has s i) t (has-high (suc j) s i b a))

-- the machine's count of leading zeros gives it
pub leading-highest : (s : ℕ) → s < 2 ^ 16 → 0 < s → 15 - count_leading_zeros 16 s ≡ highest s
leading-highest s b p =
    let r = leading_top 16 s p b in
    let e : 15 - count_leading_zeros 16 s ≡ r.0 = omega (arith, r.1) in
    e ∙ sym (highest-is s r.0 (omega (arith, r.1)) r.2 r.3)

pub highest-none : highest 0 ≡ 0
unfolding highest last_below fold_below has
highest-none = refl

-- it is a head of the set
pub highest-member : (s : ℕ) → 0 < size s → (highest s < 16) × (has s (highest s) ≡ true)
unfolding highest size
highest-member s p = last-member 16 (has s) p

-- for a mask, no head is the number 0
pub empty-mask : (s : ℕ) → s < 2 ^ 16 → empty s ≡ eqb s 0
unfolding empty
empty-mask s b =
    test-ext (eqb (size s) 0) (eqb s 0) (λ t. eq-eqb s 0 (size-zero s b (eqb-true (size s) 0 t))) (λ t. eq-eqb (size s) 0 (ap size (eqb-true s 0 t) ∙ size_none))

pub shared-le : (s t : ℕ) → size (common s t) ≤ size s
shared-le s t = size_mono (common s t) s (λ h l m. and_left (has s h) (has t h) (sym (has-common s t h) ∙ m))

-- ---- the machine's ways to say it

pub only-lt : (h : ℕ) → h < 16 → only h < 2 ^ 16
unfolding only
only-lt h l = pow-lt l

pub shifted-only : (h : ℕ) → h < 16 → 1 * 2 ^ h % 2 ^ 16 ≡ only h
unfolding only
shifted-only h l = shl_exact {a = 1} 1 h 16 (lit< tt) (omega arith) ∙ one-mul (2 ^ h)
