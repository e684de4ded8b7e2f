-- A free place has no marks; a used one is asked by its tests, and passes them before it is compared with the places before it.
use mathlib.Core.Path.{◌≡◌, sym, ◌∙◌}
use mathlib.Core.Bool.{true}
use native.Mathlib.Omega.{arith}
use Rattle.record.specs.Whole.{place_whole, marks_whole}
use Rattle.record.proofs.Laws.Fewer.{free-tests, used-place, used-number, used-tests, unused-tests}
use Rattle.whole.proofs.place_whole.Goals.{Else-not-used_ok}
use Rattle.whole.proofs.place_whole.Goals as goal

pub returns-then-w-eq0 : goal.returns-then-w-eq0
returns-then-w-eq0 c = free-tests _ _ (sym c.place_at-w.ensures ∙ c.if-w-eq0.true) c.marks_at.ensures

pub returns-then-not-used_ok : goal.returns-then-not-used_ok
returns-then-not-used_ok c = sym (unused-tests _ _ (sym (used-place _ _ c.place_at-w.ensures c.if-w-eq0.false c.used_ok.ensures) ∙ c.if-not-used_ok.true))

used-here : (c : Else-not-used_ok) → place_whole c.args.rec.now c.args.i ≡ true
used-here c = sym (used-place _ _ c.place_at-w.ensures c.if-w-eq0.false c.used_ok.ensures) ∙ c.if-not-used_ok.false

pub apart_whole-requires : goal.apart_whole-requires
apart_whole-requires c = (omega arith, used-number _ _ c.place_at-w.ensures c.if-w-eq0.false (used-here c))

pub returns : goal.returns
unfolding marks_whole
returns c = used-tests _ _ (used-here (goal.at.returns c).Else-not-used_ok) (c.marks_ok.ensures ∙ rw (c.own.ensures.0, c.place_at-w.ensures, c.marks_at-2.ensures)) c.apart_whole.ensures
