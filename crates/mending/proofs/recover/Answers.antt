-- A whole record is left as it is, another length is refused, and the rest is its part.
use mathlib.Core.Bool.{true}
use mathlib.Core.List.{List}
use Prim.Native.Nat.{ℕ}
use Rattle.store.specs.Desk.{desk, budget, run}
use Rattle.store.proofs.Laws.Program.{exec-run}
use Rattle.group.specs.Answers.{recovered}
use Rattle.record.specs.Whole.{whole}
use Rattle.record.specs.Outcome.{Outcome}
use Rattle.record.proofs.Laws.Whole.{whole_length}
use Rattle.recovery.specs.Recover.{mend_program, recover_spec}
use Rattle.recovery.proofs.Laws.Still.{still, mended-whole}
use Rattle.recovery.proofs.Laws.Call.{other_length, right-length, recover-refused, recover-done}
use mathlib.Core.Path.{◌≡◌, refl, sym, ◌∙◌}
use Rattle.mending.proofs.recover.Goals as goal

whole-stays : (r : List ℕ) (k : ℕ) → whole r ≡ true → ◌≡◌ {A = Outcome} (record { answer = recovered; rec = r }) (recover_spec r k)
unfolding run
whole-stays r k e =
    recover-done r k (desk r (budget k)) (sym (exec-run mend_program (desk r (budget k)) ∙ rw (still r e))) (right-length r (whole_length r e) ∙ rw (mended-whole r e) e) refl

pub returns-then-is_whole : goal.returns-then-is_whole
returns-then-is_whole c = whole-stays _ _ (sym c.is_whole.ensures ∙ c.if-is_whole.true)

pub returns-in_default : goal.returns-in_default
returns-in_default c = recover-refused _ _ (other_length _ c.in_default.ensures.cases)
