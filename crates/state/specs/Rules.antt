-- Line rules 4 to 7 of document 01, "Lines", over the values that a state line carries: "with the sender as own head". A rule is kept if its test passes.
use Rattle.std.specs.Prelude.{Bool, cond, ◌&&◌, List, ℕ, zero, suc, get_or, ltb, leb, eqb, Result, Ok, Err}
use Rattle.loops.specs.Below.{all_below}
use Rattle.group.specs.Heads.{has}
use Rattle.group.specs.Words.{num, rank, sound, primary_ok, formed_ok}
use Rattle.state.specs.declared.State.{State}
use Rattle.state.specs.declared.rules.Rule.{Rule}
use Rattle.state.specs.declared.rules.Rule.TheVariants.{Digits, Length, Head, Empty, Formed, Places, Numbers}

-- the rules of a line by their numbers
abbrev pub number_of_rule : Rule → ℕ
number_of_rule Digits = 1
number_of_rule Length = 2
number_of_rule Head = 3
number_of_rule Empty = 4
number_of_rule Formed = 5
number_of_rule Places = 6
number_of_rule Numbers = 7

-- the number of the rule that is broken, 0 for none
abbrev pub rule_number : Result Unit Rule → ℕ
rule_number (Ok u) = 0
rule_number (Err r) = number_of_rule r

-- "(4) a session with no heads is all zero"
unfoldable pub rule4 : State → Bool
rule4 st =
    sound st.primary
    && all_below 16 (λ q. sound (get_or st.formed q 0))
    && all_below st.count (λ i. sound (get_or st.places i 0))

-- "(5) last primary and last formed as in a whole record"
unfoldable pub rule5 : State → ℕ → Bool
rule5 st sender = primary_ok sender st.primary && all_below 16 (λ q. formed_ok sender st.primary q (get_or st.formed q 0))

-- the place before place i, none before the first
unfoldable pub prior : List ℕ → ℕ → ℕ
prior places zero = 0
prior places (suc i) = get_or places i 0

-- A place's number is above that of the place before, and the first one's above 0 ("strictly rising", "at least 1"); it is "above last primary's number", and
-- the place is "with the sender".
unfoldable pub place_ok : ℕ → ℕ → ℕ → ℕ → Bool
place_ok sender p before w = ltb (num before) (num w) && ltb (rank p) (rank w) && has w sender

-- "(6) places strictly rising, above last primary's number, at least 1, each with the sender"
unfoldable pub rule6 : State → ℕ → Bool
rule6 st sender = all_below st.count (λ i. place_ok sender st.primary (prior st.places i) (get_or st.places i 0))

-- "(7) no number above the session number"
unfoldable pub rule7 : State → Bool
rule7 st =
    leb (num st.primary) st.number
    && all_below 16 (λ q. leb (num (get_or st.formed q 0)) st.number)
    && all_below st.count (λ i. leb (num (get_or st.places i 0)) st.number)

-- the first of rules 4 to 7 that is broken, 0 for none
unfoldable pub broken : State → ℕ → ℕ
broken st sender = cond (rule4 st) (cond (rule5 st sender) (cond (rule6 st sender) (cond (rule7 st) 0 7) 6) 5) 4

-- "every state held keeps line rules 4 to 7, at most 16 places": the test of one state
unfoldable pub keeps_rules : State → ℕ → Bool
keeps_rules st sender = leb st.count 16 && eqb (broken st sender) 0
