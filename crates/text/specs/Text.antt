-- Numbers as text.
use Rattle.std.specs.Prelude.{cond, List, [], ◌∷◌, ◌++◌, ℕ, zero, suc, ◌+◌, ◌/◌, ◌%◌, ltb}

-- n in decimal, but no more than its last `most` digits. There is no zero in front where `most` is enough for n.
unfoldable pub digits : ℕ → ℕ → List ℕ
digits zero n = []
digits (suc most) n = cond (ltb n 10) ((48 + n % 10) ∷ []) (digits most (n / 10) ++ ((48 + n % 10) ∷ []))

-- a number of 64 bits has at most 20 digits
unfoldable pub decimal : ℕ → List ℕ
decimal n = digits 20 n

-- the last k digits of n, with zeros in front where n has fewer
unfoldable pub last_digits : ℕ → ℕ → List ℕ
last_digits zero n = []
last_digits (suc k) n = last_digits k (n / 10) ++ ((48 + n % 10) ∷ [])
