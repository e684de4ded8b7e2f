-- The pen decides between cut and the session at its next stage, which goes by the answer.
use mathlib.Core.Path.{◌≡◌, sym, ap, ◌∙◌}
use native.Mathlib.Omega.{arith}
use Rattle.store.specs.Desk.{is_cut, desk, budget}
use Rattle.store.specs.Program.{exec}
use Rattle.plan.specs.Decide.{decide_program, decide_answer}
use Rattle.head.specs.Refusals.{decide_refusal}
use Rattle.head.proofs.Laws.Calls.{under-made, decide-done}
use Rattle.head.proofs.session.Session.decide.Goals as goal

pub returns : goal.returns
unfolding decide_refusal
returns c =
    let a = c.args in
    let z : decide_refusal a.self a.rec.now ≡ 0 = grind arith in
    let e : desk c.decide_stores-decided.new.rec c.decide_stores-decided.result.pen ≡ exec (decide_program a.self.members a.self.held) (desk a.rec.now (budget a.stores)) = grind arith in
    let same : c.in-Some.rec.now ≡ a.rec.now = grind arith in
    rw c.at_stage.ensures
    (sym (under-made _ _ _ (ap is_cut c.in_default-pen.is))
    ∙ decide-done _ _ _ _ _ _ z e (λ t. c.decide_stores-decided.ensures.says t ∙ ap (decide_answer a.self.members a.self.held) same) c.stage_after.ensures.0 c.stage_after.ensures.1)
