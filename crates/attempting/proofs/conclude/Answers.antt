-- The branches are those of the decision, in its order; only the last one stores.
use mathlib.Core.Path.{refl, sym, ◌∙◌}
use native.Mathlib.Nat.{le_refl}
use Rattle.plan.proofs.Laws.Weighing.{none-decision, none-step, spent-decision, spent-step, full-decision, full-step, done-decision, done-step}
use Rattle.attempting.proofs.conclude.Goals as goal

pub returns-then-not-quorate : goal.returns-then-not-quorate
returns-then-not-quorate c =
    let fails = sym c.quorate.ensures ∙ c.if-not-quorate.true in
    record { stored = record { lent = refl; stores = none-step _ _ _ fails _ }; answered = none-decision _ _ _ fails }

pub returns-then-highest-ge-TOP : goal.returns-then-highest-ge-TOP
returns-then-highest-ge-TOP c =
    let passes = sym c.quorate.ensures ∙ c.if-not-quorate.false in
    let top = c.highest_among-among.ensures.0 in
    record { stored = record { lent = refl; stores = spent-step _ _ _ passes top c.if-highest-ge-TOP.true _ }; answered = spent-decision _ _ _ passes top c.if-highest-ge-TOP.true }

pub returns-in_default : goal.returns-in_default
returns-in_default c =
    let passes = sym c.quorate.ensures ∙ c.if-not-quorate.false in
    let top = c.highest_among-among.ensures.0 in
    let none = sym c.in_default.ensures in
    record { stored = record { lent = refl; stores = full-step _ _ _ passes top c.if-highest-ge-TOP.false none (le_refl 16) _ }; answered = full-decision _ _ _ passes top c.if-highest-ge-TOP.false none (le_refl 16) }

pub returns : goal.returns
returns c =
    let passes = sym c.quorate.ensures ∙ c.if-not-quorate.false in
    let top = c.highest_among-among.ensures.0 in
    let free = c.in-Some.ensures in
    record {
      stored = record { lent = c.attempt.ensures.lent; stores = done-step _ _ _ passes top c.if-highest-ge-TOP.false free.0 free.1 _ c.session_of.ensures c.attempt.ensures.stores };
      answered = done-decision _ _ _ passes top c.if-highest-ge-TOP.false free.0 free.1;
    }
