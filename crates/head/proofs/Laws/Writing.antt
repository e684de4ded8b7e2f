-- The calls that write a line: a whole record's state has a line of known length, so an output that is long enough takes it.
use mathlib.Core.Path.{◌≡◌, refl, sym, ap, ◌∙◌}
use mathlib.Core.List.{List, ◌++◌}
use Prim.Native.Nat.{ℕ, ◌+◌, ◌*◌, ◌<◌}
use native.Mathlib.Omega.{arith}
use lib.Dec.{eqb}
use lib.ListN.{length, drop}
use Rattle.loops.proofs.Laws.Truth.{cond-elim}
use Rattle.group.specs.Answers.{written}
use Rattle.record.specs.Layout.{own}
use Rattle.lines.specs.Writing.{write_attempt, write_state, attempt_line, state_line, Wrote as Chars, wrote as chars}
use Rattle.lines.proofs.Laws.Writing.{length-attempt-line, length-state-line, attempt-written, state-written}
use Rattle.state.specs.Values.{Tidy}
use Rattle.telling.specs.Telling.{tells}
use Rattle.telling.proofs.Laws.Telling.{tells-tidy}
use Rattle.head.specs.declared.session.Session.{Session}
use Rattle.head.specs.Refusals.{write_state_refusal, write_attempt_refusal}
use Rattle.head.specs.Calls.{Wrote, writes, write_state_spec, write_attempt_spec}
use Rattle.head.proofs.Laws.Fits.{usable-whole}
use Rattle.head.proofs.Laws.Refusals.{MayWriteState, may-write-state, may-write-attempt}
use Rattle.head.proofs.Laws.Calls.{allowed-by}

-- a text of length n that was written
writes-done : (n k : ℕ) (s : Session) (text out left : List ℕ) → k ≡ 0 → length text ≡ n → left ≡ text ++ drop n out
    → writes k s text out ≡ record { answer = written n; session = s; out = left }
unfolding writes
writes-done n k s text out left z l e = allowed-by k _ _ z ∙ rw (l, e)

module _ (s : Session) (r out : List ℕ) (n : ℕ) (left : List ℕ) where
  same_out : {a b : Chars} → a ≡ b → a.out ≡ b.out
  same_out e = ap (λ (x : Chars). x.out) e

  same_chars : {a b : Chars} → a ≡ b → a.chars ≡ b.chars
  same_chars e = ap (λ (x : Chars). x.chars) e

  module _ (z : write_state_refusal s r (length out) ≡ 0) (e : chars n left ≡ write_state s.view (own r) (tells r) out) where
    may : MayWriteState s r (length out)
    may = may-write-state s r (length out) z

    tidy : Tidy (tells r)
    tidy = tells-tidy r (usable-whole s r may.fit)

    state-made : chars n left ≡ chars (227 + 12 * (tells r).count) (state_line s.view (own r) (tells r) ++ drop (227 + 12 * (tells r).count) out)
    state-made = e ∙ sym (state-written s.view (own r) out (tells r) _ tidy.count may.long refl)

    -- some line was written
    pub state-length : 0 < n
    state-length = omega (arith, same_chars state-made)

    pub write-state-done : write_state_spec s r out ≡ record { answer = written n; session = s; out = left }
    unfolding write_state_spec
    write-state-done =
        writes-done n _ s _ out left z (length-state-line s.view (own r) (tells r) tidy.formed (omega (arith, tidy.count, tidy.places)) ∙ sym (same_chars state-made))
        (same_out state-made ∙ rw (← (same_chars state-made)))

  module _ (z : write_attempt_refusal s r (length out) ≡ 0) (e : chars n left ≡ write_attempt s.view (own r) out) where
    attempt-made : chars n left ≡ chars 13 (attempt_line s.view (own r) ++ drop 13 out)
    attempt-made = e ∙ sym (attempt-written s.view (own r) out _ (may-write-attempt s r (length out) z).long refl)

    pub write-attempt-done : write_attempt_spec s r out ≡ record { answer = written n; session = s; out = left }
    unfolding write_attempt_spec
    write-attempt-done =
        writes-done n _ s _ out left z (length-attempt-line s.view (own r) ∙ sym (same_chars attempt-made)) (same_out attempt-made ∙ rw (← (same_chars attempt-made)))

-- ---- a call that writes hands back the session that it was given

hands-back : (n : ℕ) (s : Session) (text out : List ℕ) → (writes n s text out).session ≡ s
unfolding writes
hands-back n s text out = cond-elim (λ (w : Wrote). w.session ≡ s) (eqb n 0) _ _ (λ e. refl) (λ e. refl)

pub state-hands-back : (s : Session) (r out : List ℕ) → (write_state_spec s r out).session ≡ s
unfolding write_state_spec
state-hands-back s r out = hands-back _ s _ out

pub attempt-hands-back : (s : Session) (r out : List ℕ) → (write_attempt_spec s r out).session ≡ s
unfolding write_attempt_spec
attempt-hands-back s r out = hands-back _ s _ out
