-- Which word holds what (document 01, "The record"): "52 words of 64 bits." Only this file and the code of `layout` know it.
use Rattle.std.specs.Prelude.{List, ℕ, ◌+◌, ◌/◌, ◌%◌, ◌<◌, get_or}
use Rattle.loops.specs.Below.{table}
use Rattle.store.specs.Desk.{Store, store}
use Rattle.record.specs.declared.layout.Field.{Field}
use Rattle.record.specs.declared.layout.Field.TheVariants.{Entered, Number, Primary, Formed, Place, Marks}

abbrev pub word : List ℕ → ℕ → ℕ
word r i = get_or r i 0

-- word 0: "W0 in bits 0-15, Q in 16-23, own head in 24-31, zeros above"
unfoldable pub settings : List ℕ → ℕ
settings r = word r 0

unfoldable pub core : List ℕ → ℕ
core r = settings r % 65536

unfoldable pub least : List ℕ → ℕ
least r = settings r / 65536 % 256

-- the lowest four of its bits, so that it is a head's number in any record; in a whole one the others are 0
unfoldable pub own : List ℕ → ℕ
own r = settings r / 16777216 % 16

-- "highest view entered, 0 before any"
unfoldable pub entered : List ℕ → ℕ
entered r = word r 1

-- "session number"
unfoldable pub number : List ℕ → ℕ
number r = word r 2

-- "last primary"
unfoldable pub primary : List ℕ → ℕ
primary r = word r 3

-- "last formed, for heads 0-15"
unfoldable pub formed_for : List ℕ → ℕ → ℕ
formed_for r q = word r (4 + q)

-- "places: ambiguous sessions, 0 if free"
unfoldable pub place_at : List ℕ → ℕ → ℕ
place_at r i = word r (20 + i)

-- "the marks of each place: heads known not to have formed it"
unfoldable pub marks_at : List ℕ → ℕ → ℕ
marks_at r i = word r (36 + i)

-- the sixteen of a kind, in order

unfoldable pub formed : List ℕ → List ℕ
formed r = table 16 (formed_for r)

unfoldable pub places : List ℕ → List ℕ
places r = table 16 (place_at r)

-- the stores, by name: "Words are stored singly"

unfoldable pub store_settings : ℕ → Store
store_settings w = store 0 w

unfoldable pub store_entered : ℕ → Store
store_entered v = store 1 v

unfoldable pub store_number : ℕ → Store
store_number n = store 2 n

unfoldable pub store_primary : ℕ → Store
store_primary w = store 3 w

unfoldable pub store_formed : ℕ → ℕ → Store
store_formed q w = store (4 + q) w

unfoldable pub store_place : ℕ → ℕ → Store
store_place i w = store (20 + i) w

unfoldable pub store_marks : ℕ → ℕ → Store
store_marks i m = store (36 + i) m

-- the store of a field that the code names
abbrev pub field_store : Field → ℕ → Store
field_store Entered v = store_entered v
field_store Number n = store_number n
field_store Primary w = store_primary w
field_store (Formed q) w = store_formed q w
field_store (Place i) w = store_place i w
field_store (Marks i) m = store_marks i m

-- the word that holds it
abbrev pub field_at : Field → ℕ
field_at f = (field_store f 0).at

-- it is a field of the record: of the words that are kept sixteenfold there are sixteen
abbrev pub InRecord : Field → Type 0
InRecord Entered = Unit
InRecord Number = Unit
InRecord Primary = Unit
InRecord (Formed q) = q < 16
InRecord (Place i) = i < 16
InRecord (Marks i) = i < 16
