-- The one store is made, and the pen decides between cut and the session opened.
use mathlib.Core.Path.{◌≡◌, sym, ap, ◌∙◌}
use native.Mathlib.Omega.{arith}
use Rattle.store.specs.Desk.{is_cut, desk, budget, put_to}
use Rattle.record.specs.Layout.{store_entered}
use Rattle.head.specs.Refusals.{enter_refusal}
use Rattle.head.proofs.Laws.Calls.{under-cut, under-made, enter-done}
use Rattle.head.proofs.session.Session.enter.Goals.{After-put-pen}
use Rattle.head.proofs.session.Session.enter.Goals as goal

allowed : (c : After-put-pen) → enter_refusal c.args.self c.args.rec.now c.args.view c.args.heads ≡ 0
unfolding enter_refusal
allowed c = grind arith

stored : (c : After-put-pen) → desk c.put-pen.new.rec c.put-pen.result ≡ put_to (store_entered c.args.view) (desk c.args.rec.now (budget c.args.stores))
stored c = grind arith

pub returns-in-Cut : goal.returns-in-Cut
returns-in-Cut c =
    let p = (goal.at.returns-in-Cut c).After-put-pen in
    rw (c.cut_off.ensures.0, c.cut_off.ensures.1) (sym (enter-done _ _ _ _ _ _ (allowed p) (stored p) ∙ under-cut _ _ _ (ap is_cut c.in-Cut.is)))

pub returns : goal.returns
returns c =
    let p = (goal.at.returns c).After-put-pen in
    let same : c.in-Some.rec.now ≡ c.args.rec.now = grind arith in
    rw (c.opened.ensures, c.own-me.ensures.0, same) (sym (enter-done _ _ _ _ _ _ (allowed p) (stored p) ∙ under-made _ _ _ (ap is_cut c.in_default-pen.is)))
