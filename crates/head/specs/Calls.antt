-- Each call as a function of its inputs: answer, record words, session and output, refusals too ("Record, session and output buffer keep their contents").
use Rattle.std.specs.Prelude.{cond, List, [], ◌∷◌, ◌++◌, ℕ, eqb, length, drop}
use Rattle.group.specs.Answers.{Said, said, entered, heard, formed, written, cut, refused}
use Rattle.store.specs.Desk.{Desk, desk, budget, is_cut}
use Rattle.store.specs.Program.{Step, exec}
use Rattle.store.specs.Changes.{Change}
use Rattle.record.specs.Layout.{own}
use Rattle.recovery.specs.Changes.{entry_change}
use Rattle.lines.specs.Reading.{read_whole}
use Rattle.lines.specs.Writing.{state_line, attempt_line}
use Rattle.lines.specs.Read.{Line}
use Rattle.lines.specs.Read as line
use Rattle.state.specs.declared.State.{State}
use Rattle.telling.specs.Telling.{tells}
use Rattle.plan.specs.Attempt.{attempts}
use Rattle.plan.specs.Decide.{after_c, decide_program, decide_answer, decide_changes}
use Rattle.plan.specs.Form.{form_step, form_changes}
use Rattle.head.specs.declared.session.Session.{Session}
use Rattle.head.specs.declared.session.Next.{Next}
use Rattle.head.specs.Session.{no_session, opened, with_state, with_attempt, at_stage}
use Rattle.head.specs.Refusals.{enter_refusal, hear_state_refusal, hear_attempt_refusal, decide_refusal, form_refusal, write_state_refusal, write_attempt_refusal}

-- what a call ends with: its answer in document 01's words, the record's words, the session handed back
pub record Ended : Type 0 where
  pub answer : Said
  pub words : List ℕ
  pub session : Session

abbrev pub ended : List ℕ → Next → Ended
ended words next = record { answer = said next.answer; words = words; session = next.session }

-- refused with n: "Record, session and output buffer keep their contents."
abbrev pub refuses : ℕ → List ℕ → Session → Ended
refuses n r s = record { answer = refused n; words = r; session = s }

-- "A call that needs more ends after that many with the answer "cut" and no session; any other ends as usual": as the stores left the desk
unfoldable pub under : Desk → Said → Session → Ended
under d answer s =
    cond (is_cut d.pen) (record { answer = cut; words = d.rec; session = no_session }) (record { answer = answer; words = d.rec; session = s })

-- a call that stores, with k stores to make
unfoldable pub stores : List Step → List ℕ → ℕ → Said → Session → Ended
stores program r k answer s = under (exec program (desk r (budget k))) answer s

-- "Enter (view, heads M): stores word 1, ends any session, opens one."
unfoldable pub entry_step : ℕ → Step
entry_step view r = entry_change view

unfoldable pub enter_spec : Session → List ℕ → ℕ → ℕ → ℕ → Ended
enter_spec s r view m k =
    cond (eqb (enter_refusal s r view m) 0)
    (stores (entry_step view ∷ []) r k entered (opened (own r) view m))
    (refuses (enter_refusal s r view m) r s)

-- the session after a line is heard; a line of the other kind never comes here
abbrev pub heard_state : Session → Line → State → Session
heard_state s (line.StateLine view sender) st = with_state s sender st
heard_state s (line.AttemptLine view sender) st = s
heard_state s (line.Broken rule) st = s

-- "Hear a state line .. The bytes given are one line; anything after its newline breaks rule 1."
unfoldable pub hear_state_spec : Session → List ℕ → List ℕ → Ended
hear_state_spec s r bytes =
    cond (eqb (hear_state_refusal s r bytes) 0)
    (record { answer = heard; words = r; session = heard_state s (read_whole bytes).line (read_whole bytes).state })
    (refuses (hear_state_refusal s r bytes) r s)

abbrev pub heard_attempt : Session → Line → Session
heard_attempt s (line.StateLine view sender) = s
heard_attempt s (line.AttemptLine view sender) = with_attempt s sender
heard_attempt s (line.Broken rule) = s

-- "hear an attempt line"; "An attempt may come before the head has decided; it is kept."
unfoldable pub hear_attempt_spec : Session → List ℕ → List ℕ → Ended
hear_attempt_spec s r bytes =
    cond (eqb (hear_attempt_refusal s r bytes) 0)
    (record { answer = heard; words = r; session = heard_attempt s (read_whole bytes).line })
    (refuses (hear_attempt_refusal s r bytes) r s)

-- attempted is stage 3; "The last three .. close the session", stage 2
unfoldable pub decided_stage : Session → List ℕ → ℕ
decided_stage s r = cond (attempts s.members s.held (after_c s.members s.held r)) 3 2

-- "Decide, once all states of M are in."
unfoldable pub decide_spec : Session → List ℕ → ℕ → Ended
decide_spec s r k =
    cond (eqb (decide_refusal s r) 0)
    (stores (decide_program s.members s.held) r k (decide_answer s.members s.held r) (at_stage s (decided_stage s r)))
    (refuses (decide_refusal s r) r s)

-- "Form, once all attempts of M are in: .. the head is primary until it enters another view or stops."
unfoldable pub form_spec : Session → List ℕ → ℕ → Ended
form_spec s r k =
    cond (eqb (form_refusal s r) 0)
    (stores (form_step s.members ∷ []) r k formed (at_stage s 4))
    (refuses (form_refusal s r) r s)

-- a call that writes a line: its answer, the session handed back, the output left. "Output past the written line keeps its bytes."
pub record Wrote : Type 0 where
  pub answer : Said
  pub session : Session
  pub out : List ℕ

abbrev pub wrote : List ℕ → Next → Wrote
wrote out next = record { answer = said next.answer; session = next.session; out = out }

unfoldable pub writes : ℕ → Session → List ℕ → List ℕ → Wrote
writes refusal s text out =
    cond (eqb refusal 0)
    (record { answer = written (length text); session = s; out = text ++ drop (length text) out })
    (record { answer = refused refusal; session = s; out = out })

-- "Write state line, of the record's values, from entry until decided"
unfoldable pub write_state_spec : Session → List ℕ → List ℕ → Wrote
write_state_spec s r out = writes (write_state_refusal s r (length out)) s (state_line s.view (own r) (tells r)) out

-- "write attempt line, once attempted"
unfoldable pub write_attempt_spec : Session → List ℕ → List ℕ → Wrote
write_attempt_spec s r out = writes (write_attempt_refusal s r (length out)) s (attempt_line s.view (own r)) out

-- the changes of each call that stores, none where it is refused: "Enter: word 1, one change."
unfoldable pub enter_changes : Session → List ℕ → ℕ → ℕ → List Change
enter_changes s r view m = cond (eqb (enter_refusal s r view m) 0) (entry_change view ∷ []) []

unfoldable pub decides_changes : Session → List ℕ → List Change
decides_changes s r = cond (eqb (decide_refusal s r) 0) (decide_changes s.members s.held r) []

unfoldable pub forms_changes : Session → List ℕ → List Change
forms_changes s r = cond (eqb (form_refusal s r) 0) (form_changes s.members r) []
