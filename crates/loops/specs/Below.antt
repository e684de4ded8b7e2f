-- Recursions over 0, 1, .., n - 1, in this order: what a loop `for i in 0..n` computes. Each that counts, tests, finds or collects is a `fold_below`.
use Rattle.std.specs.Prelude.{Bool, true, false, ◌&&◌, ◌||◌, cond, List, [], ◌∷◌, ◌++◌, ℕ, zero, suc, ◌+◌, ltb, set}

-- the state after the steps 0, 1, .., n - 1
unfoldable pub fold_below {ℓ} : {A : Type ℓ} → ℕ → (ℕ → A → A) → A → A
fold_below zero step s = s
fold_below (suc n) step s = step n (fold_below n step s)

-- a test as a number: 1 where it passes
abbrev pub bit : Bool → ℕ
bit true = 1
bit false = 0

-- how many of 0 .. n - 1 pass the test
unfoldable pub count_below : ℕ → (ℕ → Bool) → ℕ
count_below n p = fold_below n (λ i c. c + bit (p i)) 0

-- all of them pass it
unfoldable pub all_below : ℕ → (ℕ → Bool) → Bool
all_below n p = fold_below n (λ i ok. ok && p i) true

-- some of them passes it
unfoldable pub any_below : ℕ → (ℕ → Bool) → Bool
any_below n p = fold_below n (λ i found. found || p i) false

-- the last one that passes it, and 0 if none does
unfoldable pub last_below : ℕ → (ℕ → Bool) → ℕ
last_below n p = fold_below n (λ i best. cond (p i) i best) 0

-- the first one that passes it, and n if none does
unfoldable pub first_below : ℕ → (ℕ → Bool) → ℕ
first_below n p = fold_below n (λ i first. cond (ltb first i) first (cond (p i) i (suc i))) 0

-- a step that stores `f i` at place `base + i` where the test passes
unfoldable pub store_when {ℓ} : {A : Type ℓ} → ℕ → (ℕ → Bool) → (ℕ → A) → ℕ → List A → List A
store_when base p f i l = cond (p i) (set l (base + i) (f i)) l

-- the lists part 0, part 1, .., part (n - 1), one after the other
unfoldable pub collect {ℓ} : {A : Type ℓ} → ℕ → (ℕ → List A) → List A
collect n part = fold_below n (λ i l. l ++ part i) []

-- the list f 0, f 1, .., f (n - 1)
unfoldable pub table {ℓ} : {A : Type ℓ} → ℕ → (ℕ → A) → List A
table zero f = []
table (suc n) f = f 0 ∷ table n (λ k. f (suc k))

-- the test passes for every element of a list
unfoldable pub every : {A : Type 0} → (A → Bool) → List A → Bool
every p [] = true
every p (x ∷ l) = p x && every p l
