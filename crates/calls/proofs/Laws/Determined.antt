-- Each call's contract allows one outcome: the words of document 01 tell the answers apart, and the rest is equal as it stands.
use mathlib.Core.Path.{◌≡◌, sym, ap, ap₂, ◌∙◌}
use mathlib.Core.List.{List}
use Prim.Native.Nat.{ℕ}
use Rattle.std.specs.Prelude.{Result}
use Rattle.group.specs.declared.answers.Answer.{Answer}
use Rattle.group.specs.declared.answers.Refusal.{Refusal}
use Rattle.group.proofs.Laws.Answers.{said-one}
use Rattle.head.specs.declared.session.Session.{Session}
use Rattle.head.specs.declared.session.Next.{Next}
use Rattle.head.specs.Calls.{Ended, ended, Wrote, wrote, enter_spec, hear_state_spec, hear_attempt_spec, decide_spec, form_spec, write_state_spec, write_attempt_spec}
use Rattle.calls.specs.Statements.{enter, hear-state, hear-attempt, decide, form, write-state, write-attempt, Determined}

one-next : (x y : Next) → x.answer ≡ y.answer → x.session ≡ y.session → x ≡ y
one-next x y e f = ap₂ (λ (a : Result Answer Refusal) (s : Session). record { answer = a; session = s }) e f

one-ending : (e : Ended) (v w : List ℕ) (x y : Next) → ended v x ≡ e → ended w y ≡ e → (v ≡ w) × (x ≡ y)
one-ending e v w x y a b =
    let c = a ∙ sym b in (
      ap (λ (u : Ended). u.words) c,
      one-next x y (said-one x.answer y.answer (ap (λ (u : Ended). u.answer) c)) (ap (λ (u : Ended). u.session) c),
    )

one-writing : (e : Wrote) (v w : List ℕ) (x y : Next) → wrote v x ≡ e → wrote w y ≡ e → (v ≡ w) × (x ≡ y)
one-writing e v w x y a b =
    let c = a ∙ sym b in (
      ap (λ (u : Wrote). u.out) c,
      one-next x y (said-one x.answer y.answer (ap (λ (u : Wrote). u.answer) c)) (ap (λ (u : Wrote). u.session) c),
    )

pub determined : Determined
determined (enter view m k) s r v w x y = one-ending (enter_spec s r view m k) v w x y
determined (hear-state line) s r v w x y = one-ending (hear_state_spec s r line) v w x y
determined (hear-attempt line) s r v w x y = one-ending (hear_attempt_spec s r line) v w x y
determined (decide k) s r v w x y = one-ending (decide_spec s r k) v w x y
determined (form k) s r v w x y = one-ending (form_spec s r k) v w x y
determined (write-state out) s r v w x y = one-writing (write_state_spec s r out) v w x y
determined (write-attempt out) s r v w x y = one-writing (write_attempt_spec s r out) v w x y
