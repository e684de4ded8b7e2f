-- Refused where the recovered record is not whole; else it is stored under the call's pen, cut or done.
use native.Mathlib.Omega.{arith}
use mathlib.Core.Bool.{true}
use mathlib.Core.Path.{◌≡◌, refl, sym, ap, ◌∙◌}
use Rattle.record.specs.Whole.{words_whole}
use Rattle.recovery.specs.Recover.{mendable}
use Rattle.recovery.proofs.Laws.Call.{mends-words, recover-refused, recover-cut, recover-done}
use Rattle.mending.proofs.Laws.Toward.{stored-mends}
use Rattle.mending.proofs.recover_words.Goals.{Else-not-words_whole}
use Rattle.mending.proofs.recover_words.Goals as goal

pub returns-then-not-words_whole : goal.returns-then-not-words_whole
returns-then-not-words_whole c = recover-refused _ _ (mends-words _ (omega arith) ∙ ap words_whole (sym c.mended-to.ensures) ∙ sym c.words_whole.ensures ∙ c.if-not-words_whole.true)

mends_here : (c : Else-not-words_whole) → mendable c.args.rec.now ≡ true
mends_here c = mends-words _ (omega arith) ∙ ap words_whole (sym c.mended-to.ensures) ∙ sym c.words_whole.ensures ∙ c.if-not-words_whole.false

pub returns-in-Left : goal.returns-in-Left
returns-in-Left c = recover-done _ _ _ (stored-mends _ (omega arith) _ c.mended-to.ensures c.in-Left.ensures) (mends_here (goal.at.returns-in-Left c).Else-not-words_whole) refl

pub returns-in-Cut : goal.returns-in-Cut
returns-in-Cut c = recover-cut _ _ _ (stored-mends _ (omega arith) _ c.mended-to.ensures c.in-Cut.ensures) (mends_here (goal.at.returns-in-Cut c).Else-not-words_whole) refl
