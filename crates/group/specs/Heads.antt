-- Sets of heads. A set is a number: head h is in it if its bit h is 1. Heads are 0 to 15 (document 01: "16 heads (0 to 15)").
use Rattle.std.specs.Prelude.{◌≡◌, Bool, true, ℕ, ◌-◌, ◌/◌, ◌%◌, ◌^◌, ◌<◌, eqb}
use Rattle.std.specs.Int.Bits.{bit_and, bit_or}
use Rattle.loops.specs.Below.{count_below, last_below}

unfoldable pub has : ℕ → ℕ → Bool
has s h = eqb (s / 2 ^ h % 2) 1

-- the number of heads
unfoldable pub size : ℕ → ℕ
size s = count_below 16 (has s)

unfoldable pub empty : ℕ → Bool
empty s = eqb (size s) 0

-- the heads in both, and in either
unfoldable pub common : ℕ → ℕ → ℕ
common s t = bit_and s t

unfoldable pub either : ℕ → ℕ → ℕ
either s t = bit_or s t

-- how many heads of s are in t
unfoldable pub shared : ℕ → ℕ → ℕ
shared s t = size (common s t)

-- the heads of s that are not in t, a set of heads 0 to 15
unfoldable pub less : ℕ → ℕ → ℕ
less s t = bit_and s (65535 - t)

-- the set of one head
unfoldable pub only : ℕ → ℕ
only h = 2 ^ h

-- every head of s is in t; of a word, every bit of it
unfoldable pub within : ℕ → ℕ → Bool
within s t = eqb (common s t) s

-- the highest-numbered head, and 0 if there is none
unfoldable pub highest : ℕ → ℕ
highest s = last_below 16 (has s)

-- some head is in both: which one
abbrev pub Share : ℕ → ℕ → Type 0
Share s t = (h : ℕ) × (h < 16) × (has s h ≡ true) × (has t h ≡ true)
