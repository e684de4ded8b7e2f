-- A line of the other kind, or one that does not read, is refused with 3; a line that reads has a sender below 16.
use mathlib.Core.Path.{◌≡◌, sym, ap, ◌∙◌}
use native.Mathlib.Omega.{arith}
use Rattle.lines.specs.Read.{Read, StateLine}
use Rattle.lines.specs.Reading.{read_whole, read_of}
use Rattle.head.specs.Refusals.{of_state_line, hear_state_refusal}
use Rattle.head.specs.Calls.{hear_state_spec}
use Rattle.head.proofs.Laws.Hearing.{state-kept, no-state-line}
use Rattle.head.proofs.session.Session.hear_state.Goals as goal
use Rattle.head.proofs.session.Session.hear_state.Goals.{in_default-read_whole-via-in-Ok+in_default, in_default-read_whole-via-in_default}

pub returns-in_default-read_whole : goal.returns-in_default-read_whole
unfolding hear_state_spec hear_state_refusal
returns-in_default-read_whole c =
    let a = c.args in
    let e : of_state_line a.self a.rec.now (read_of c.read_whole.result).line ≡ 3 =
    elim c.in_default-read_whole.branch [
      | in_default-read_whole-via-in-Ok+in_default w ↦ grind (arith, no-state-line)
      | in_default-read_whole-via-in_default w ↦ grind (arith, no-state-line)
    ] in
    grind arith

pub with_state-requires : goal.with_state-requires
with_state-requires c =
    let k = c.in-Ok-State in
    let e : (read_whole c.args.line.now).line ≡ StateLine k.view k.sender = ap (λ (x : Read). x.line) (sym c.read_whole.ensures) ∙ rw (k.is, k.field-0-is) in
    (state-kept _ _ _ e).head.sender
