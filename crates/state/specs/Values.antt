-- The values of a state line: session number, last primary, last formed for heads 0 to 15, and the ambiguous sessions in `count` places. A session is its
-- word (document 01: "None" .. "is written as 0").
use Rattle.std.specs.Prelude.{◌≡◌, List, ◌++◌, ℕ, ◌-◌, ◌≤◌, ◌<◌, length, take, replicate}
use Rattle.state.specs.declared.State.{State}
use Rattle.state.specs.declared.Held.{Held}

unfoldable pub no_state : State
no_state = record { number = 0; primary = 0; formed = replicate 16 0; count = 0; places = replicate 16 0 }

-- no state of any head
unfoldable pub nothing_held : Held
nothing_held = record { of = replicate 16 no_state }

-- sixteen words: the list, and then zeros
unfoldable pub padded : List ℕ → List ℕ
padded words = words ++ replicate (16 - length words) 0

-- A state in the one form that a line gives it: "numbers up to 4,294,967,295", "16 heads", "16 places", and 0 in the places past the count.
pub record Tidy (st : State) : Type 0 where
  pub number : st.number < 4294967296
  pub formed : length st.formed ≡ 16
  pub places : length st.places ≡ 16
  pub count : st.count ≤ 16
  pub free : st.places ≡ padded (take st.count st.places)
