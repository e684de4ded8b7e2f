-- Refusal 1, refusal 2, or the fresh record: one case of `start_spec` each.
use mathlib.Core.Path.{refl, sym, ◌∙◌}
use Rattle.record.proofs.Laws.Start.{not-a-group, not-the-length, starts}
use Rattle.start.proofs.start.Goals as goal

pub returns-then-not-can_start : goal.returns-then-not-can_start
returns-then-not-can_start c = not-a-group _ _ _ _ c.taken_least.ensures (sym c.can_start.ensures ∙ c.if-not-can_start.true)

pub returns-in_default : goal.returns-in_default
returns-in_default c = not-the-length _ _ _ _ c.taken_least.ensures (sym c.can_start.ensures ∙ c.if-not-can_start.false) c.in_default.ensures.cases

pub returns : goal.returns
returns c = starts _ _ _ _ c.taken_least.ensures (sym c.can_start.ensures ∙ c.if-not-can_start.false) (c.in-Some.ensures.variant.0 refl) c.fresh.ensures
