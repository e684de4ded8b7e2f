-- How many digits a number has, by cases on the number of digits left, and its last digits, two at a time.
use mathlib.Core.Path.{◌≡◌, refl, sym, ap, ◌∙◌}
use mathlib.Core.Logic.{⊎_elim}
use mathlib.Core.List.{[], ◌∷◌, ◌++◌, append_assoc}
use Prim.Native.Nat.{ℕ, zero, suc, ◌+◌, ◌*◌, ◌/◌, ◌%◌, ◌^◌, ◌≤◌, ◌<◌}
use native.Mathlib.Nat.{pow-succ', mod-eq_of_lt}
use native.Mathlib.Numerals.{add-one, add-two}
use native.Mathlib.Omega.{arith}
use lib.ListN.{length, length-append}
use borrow.Author.Tests.{lt-ltb, le-ltb}
use Rattle.loops.proofs.Laws.Order.{lt-or-ge}
use Rattle.text.specs.Text.{digits, decimal, last_digits}

digits-one : (k n : ℕ) → n < 10 → digits (suc k) n ≡ (48 + n % 10) ∷ []
unfolding digits
digits-one k n h = rw (lt-ltb n 10 h)

digits_more : (k n : ℕ) → 10 ≤ n → digits (suc k) n ≡ digits k (n / 10) ++ ((48 + n % 10) ∷ [])
unfolding digits
digits_more k n h = rw (le-ltb n 10 h)

digits-none : (n : ℕ) → digits 0 n ≡ []
unfolding digits
digits-none n = refl

-- ---- how many digits

count-one : (k n : ℕ) → n < 10 → length (digits (suc k) n) ≡ 1
count-one k n h = ap length (digits-one k n h)

count-more : (k n : ℕ) → 10 ≤ n → length (digits (suc k) n) ≡ length (digits k (n / 10)) + 1
count-more k n h = ap length (digits_more k n h) ∙ rw length-append

count-le : (k n : ℕ) → length (digits k n) ≤ k
count-le zero n = rw (digits-none n) (omega arith)
count-le (suc k) n =
    ⊎_elim
    (λ h. omega (arith, count-one k n h))
    (λ h. omega (arith, count-more k n h, count-le k (n / 10)))
    (lt-or-ge n 10)

-- no number takes more than twenty
pub decimal-le : (k n : ℕ) → k ≡ length (decimal n) → k ≤ 20
unfolding decimal
decimal-le k n e = omega (arith, e, count-le 20 n)

pow-pos : (k : ℕ) → 1 ≤ 10 ^ k
pow-pos zero = omega arith
pow-pos (suc k) = omega (arith, pow-succ' 10 k, pow-pos k)

-- one more than the power of ten that it reaches
count-power : (k m n : ℕ) → 10 ^ k ≤ n → n < 10 * 10 ^ k → k ≤ m → length (digits (suc m) n) ≡ k + 1
count-power zero m n h l r = count-one m n l
count-power (suc k) zero n h l r = absurd (omega arith)
count-power (suc k) (suc m) n h l r =
    let p : 10 ^ suc k ≡ 10 * 10 ^ k = pow-succ' 10 k in
    let q : 1 ≤ 10 ^ k = pow-pos k in
    omega (arith, p, count-more (suc m) n (omega (arith, p, q)), count-power k m (n / 10) (omega (arith, p)) (omega (arith, p)) (omega arith))

pub decimal-power : (k n : ℕ) → 10 ^ k ≤ n → n < 10 * 10 ^ k → k < 20 → k + 1 ≡ length (decimal n)
unfolding decimal
decimal-power k n h l r = sym (count-power k 19 n h l (omega arith))

pub decimal-one : (n : ℕ) → n < 10 → decimal n ≡ (48 + n) ∷ []
unfolding decimal
decimal-one n h = digits-one 19 n h ∙ rw (mod-eq_of_lt h)

-- ---- the last digits

last_counted : (k n : ℕ) → last_digits (length (digits k n)) n ≡ digits k n
unfolding last_digits
last_counted zero n = rw (digits-none n)
last_counted (suc k) n =
    ⊎_elim
    (λ h. rw (digits-one k n h))
    (λ h. rw (digits_more k n h, length-append, add-one, last_counted k (n / 10)))
    (lt-or-ge n 10)

-- as many as it has are all of them
pub decimal-last : (n : ℕ) → last_digits (length (decimal n)) n ≡ decimal n
unfolding decimal
decimal-last n = last_counted 20 n

pub last_none : (n : ℕ) → [] ≡ last_digits 0 n
unfolding last_digits
last_none n = refl

pub last_one : (n : ℕ) → (48 + n % 10) ∷ [] ≡ last_digits 1 n
unfolding last_digits
last_one n = refl

pub last_two : (k n : ℕ) → last_digits k (n / 100) ++ ((48 + n / 10 % 10) ∷ (48 + n % 10) ∷ []) ≡ last_digits (k + 2) n
unfolding last_digits
last_two k n =
    let d : n / 10 / 10 ≡ n / 100 = omega arith in
    rw (add-two, d, append_assoc)
