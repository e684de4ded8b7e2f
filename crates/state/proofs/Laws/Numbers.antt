-- A rule's number tells the rules apart, so a contract over `rule_number` allows one answer: the number has an inverse.
use mathlib.Core.Path.{◌≡◌, refl, sym, ap, ◌∙◌}
use Prim.Native.Nat.{ℕ, zero, suc}
use mathlib.Core.List.{[], ◌∷◌}
use lib.ListN.{get_or}
use Rattle.std.specs.Prelude.{Result, Ok, Err}
use Rattle.state.specs.declared.rules.Rule.{Rule}
use Rattle.state.specs.declared.rules.Rule.TheVariants.{Digits, Length, Head, Empty, Formed, Places, Numbers}
use Rattle.state.specs.Rules.{number_of_rule, rule_number}

-- the rule of a number; of one that no rule has, the last
abbrev pub rule_of : ℕ → Rule
rule_of n = get_or (Numbers ∷ Digits ∷ Length ∷ Head ∷ Empty ∷ Formed ∷ Places ∷ Numbers ∷ []) n Numbers

pub rule-back : (r : Rule) → rule_of (number_of_rule r) ≡ r
rule-back Digits = refl
rule-back Length = refl
rule-back Head = refl
rule-back Empty = refl
rule-back Formed = refl
rule-back Places = refl
rule-back Numbers = refl

abbrev unruled : ℕ → Result Unit Rule
unruled zero = Ok tt
unruled (suc n) = Err (rule_of (suc n))

unruled-number : (a : Result Unit Rule) → unruled (rule_number a) ≡ a
unruled-number (Ok u) = refl
unruled-number (Err Digits) = refl
unruled-number (Err Length) = refl
unruled-number (Err Head) = refl
unruled-number (Err Empty) = refl
unruled-number (Err Formed) = refl
unruled-number (Err Places) = refl
unruled-number (Err Numbers) = refl

pub rule-one : (a b : Result Unit Rule) → rule_number a ≡ rule_number b → a ≡ b
rule-one a b e = sym (unruled-number a) ∙ ap unruled e ∙ unruled-number b
