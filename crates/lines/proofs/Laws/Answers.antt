-- What the reader answers tells its answers apart, so a contract over `read_of` allows one answer: it has an inverse.
use mathlib.Core.Path.{◌≡◌, refl, sym, ap, ◌∙◌}
use Rattle.std.specs.Prelude.{Result, Ok, Err}
use Rattle.state.specs.declared.State.{State}
use Rattle.state.specs.declared.rules.Rule.{Rule}
use Rattle.state.proofs.Laws.Numbers.{rule_of, rule-back}
use Rattle.lines.specs.declared.Frame.{Frame}
use Rattle.lines.specs.declared.Frame.TheVariants as frame
use Rattle.lines.specs.Read.{Line, Read, StateLine, AttemptLine, Broken}
use Rattle.lines.specs.Reading.{breaks, read_of}

abbrev unread_as : Line → State → Result Frame Rule
unread_as (StateLine view sender) st = Ok (frame.State view sender st)
unread_as (AttemptLine view sender) st = Ok (frame.Attempt view sender)
unread_as (Broken k) st = Err (rule_of k)

abbrev unread : Read → Result Frame Rule
unread r = unread_as r.line r.state

unread-read : (a : Result Frame Rule) → unread (read_of a) ≡ a
unfolding breaks
unread-read (Ok (frame.State view sender st)) = refl
unread-read (Ok (frame.Attempt view sender)) = refl
unread-read (Err r) = ap {B = Result Frame Rule} Err (rule-back r)

pub read-one : (a b : Result Frame Rule) → read_of a ≡ read_of b → a ≡ b
read-one a b e = sym (unread-read a) ∙ ap unread e ∙ unread-read b
