-- Cases 1 to 10 of document 01 hold: one computation over the table.
use mathlib.Core.Path.{◌≡◌, refl}
use mathlib.Core.List.{map}
use Rattle.loops.specs.Below.{fold_below, count_below, last_below}
use Rattle.group.specs.Heads.{has, size, empty, common, shared, highest}
use Rattle.group.specs.Quorum.{enough, majority, tied, blocking, passes, is_group, quorum_test}
use Rattle.group.specs.Cases.{Case, cases, answered}

pub cases-hold : map answered cases ≡ map (λ (c : Case). c.answer) cases
unfolding cases answered quorum_test is_group passes enough majority tied blocking shared size empty common highest has count_below last_below fold_below
cases-hold = refl
