-- Sessions as words (document 01, "The record"): "A session word holds its heads in bits 0 to 15, its number in bits 16 to 47, zeros above."
-- The heads are the lowest bits, so `has w h` of specs/Heads says of the word itself that head h is in the session.
use Rattle.std.specs.Prelude.{Bool, not, cond, ◌&&◌, ◌||◌, ℕ, ◌+◌, ◌*◌, ◌/◌, ◌%◌, eqb, ltb}
use Rattle.loops.specs.Below.{fold_below}
use Rattle.group.specs.Heads.{has}

abbrev pub heads : ℕ → ℕ
heads w = w % 65536

-- the number: all bits above the heads, so that a word with bits above 47 has a number past every limit
abbrev pub num : ℕ → ℕ
num w = w / 65536

-- the session of a number and a set of heads
abbrev pub session : ℕ → ℕ → ℕ
session n s = n * 65536 + s

-- "None" counts as number -1 and is written as 0: ranks order as numbers do, with 0 for none
unfoldable pub rank : ℕ → ℕ
rank w = cond (eqb w 0) 0 (num w + 1)

-- the highest-numbered of the sessions f 0, .., f (n - 1), of the lowest index on a tie; none if all are none
unfoldable pub highest_of : ℕ → (ℕ → ℕ) → ℕ
highest_of n f = fold_below n (λ i w. cond (ltb (rank w) (rank (f i))) (f i) w) 0

-- "None .. is written as 0; a real session has at least one head": line rule 4, a session with no heads is all zero
unfoldable pub sound : ℕ → Bool
sound w = eqb w 0 || not (eqb (heads w) 0)

-- a session word of the record: sound, with zeros above bit 47
unfoldable pub session_word : ℕ → Bool
session_word w = sound w && ltb w 281474976710656

-- "last primary none or with own head in it"
unfoldable pub primary_ok : ℕ → ℕ → Bool
primary_ok own p = eqb p 0 || has p own

-- "last formed for q equal to last primary for each q in it, and for other q none or a session with both own head and q and a lower number"
unfoldable pub formed_ok : ℕ → ℕ → ℕ → ℕ → Bool
formed_ok own p q w =
    (has p q && eqb w p)
    || (not (has p q) && (eqb w 0 || (has w own && has w q && ltb (rank w) (rank p))))
