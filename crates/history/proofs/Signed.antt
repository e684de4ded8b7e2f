-- A line that a head of a history wrote names that head as sender: it is written from a whole record of its own, so it reads back, and word 0 has its own number.
use mathlib.Core.Bool.{Bool, true, false, cond}
use mathlib.Core.Logic.{⊎_elim}
use mathlib.Core.Path.{◌≡◌, refl, sym, ap, subst}
use mathlib.Core.List.Memᴰ
use mathlib.Core.List.{List, ◌++◌, Memᴰ}
use Prim.Native.Nat.{ℕ}
use native.Mathlib.Omega.{arith}
use lib.Dec.{eqb}
use lib.ListN.{length, drop}
use borrow.Author.Tests.{eqb-true}
use Rattle.group.specs.Answers.{written, refused}
use Rattle.record.specs.Layout.{own}
use Rattle.lines.specs.Reading.{read_whole}
use Rattle.lines.specs.Writing.{state_line, attempt_line}
use Rattle.lines.specs.Read.{Line, Read, StateLine, AttemptLine, Broken}
use Rattle.telling.specs.Telling.{tells}
use Rattle.head.specs.declared.session.Session.{Session}
use Rattle.head.specs.Fits.{usable}
use Rattle.head.specs.Refusals.{write_state_refusal, write_attempt_refusal}
use Rattle.head.specs.Calls.{writes as writes_line, write_state_spec, write_attempt_spec}
use Rattle.head.proofs.Laws.Fits.{Fitting, usable-whole, usable-fits, fits-parts}
use Rattle.head.proofs.Laws.Refusals.{may-write-state, may-write-attempt}
use Rattle.history.specs.Setting.{Setting}
use Rattle.history.specs.Statement.{Sent, Head, unstarted, running, World, Call, enter, hear-state, hear-attempt, decide, form, recover, write-state, write-attempt, Event, start, call, lines_of, writes, signed, given, empty, called, step, SentBefore, History, begin, more}
use Rattle.history.proofs.Abstraction.{group_in}
use Rattle.history.proofs.Invariant.{reading}
use Rattle.history.proofs.Calls.Going.{own_is}
use Rattle.history.proofs.Calls.Write.{state-reads, attempt-reads, take-front}
use Rattle.history.proofs.Theorem.{runs-at, fine}

-- the line names p as sender, if it reads
abbrev pub Names : ℕ → Line → Type 0
Names p (StateLine v x) = x ≡ p
Names p (AttemptLine v x) = x ≡ p
Names p (Broken k) = Unit {0}

-- a line that was written names its writer
abbrev pub Signed : Sent → Type 0
Signed x = Names x.by (read_whole x.bytes).line

-- ---- what a call writes

module _ (r : List ℕ) (s : Session) where
  fitting : usable s r ≡ true → (s.stage ≡ 0 → ⊥) → Fitting s r
  fitting e n = fits-parts s r (usable-fits s r e) n

  state-names : (room : ℕ) → write_state_refusal s r room ≡ 0 → Names (own r) (read_whole (state_line s.view (own r) (tells r))).line
  state-names room z =
      let a = may-write-state s r room z in
      let reads = state-reads r s (usable-whole s r a.fit) (fitting a.fit (λ e. omega (arith, a.undecided, e))) in
      subst (Names (own r)) (sym (ap (λ (y : Read). y.line) reads)) refl

  attempt-names : (room : ℕ) → write_attempt_refusal s r room ≡ 0 → Names (own r) (read_whole (attempt_line s.view (own r))).line
  attempt-names room z =
      let a = may-write-attempt s r room z in
      let reads = attempt-reads r s (usable-whole s r a.fit) (fitting a.fit (λ e. omega (arith, a.attempted, e))) in
      subst (Names (own r)) (sym (ap (λ (y : Read). y.line) reads)) refl

  -- one line, or none where the call is refused
  by-refusal : (n : ℕ) (text out : List ℕ) → (n ≡ 0 → Names (own r) (read_whole text).line)
      → (x : Sent) → Memᴰ x (signed (own r) (lines_of (writes_line n s text out))) → Signed x
  unfolding writes_line
  by-refusal n text out f x d = go (eqb n 0) refl d
    where
      go : (b : Bool) → eqb n 0 ≡ b
          → Memᴰ x (signed (own r) (lines_of (cond b (record { answer = written (length text); session = s; out = text ++ drop (length text) out }) (record { answer = refused n; session = s; out = out })))) → Signed x
      go true e d =
          subst Signed (sym (Memᴰ.eq_of_singleton d))
          (subst (λ (l : List ℕ). Names (own r) (read_whole l).line) (sym (take-front text (drop (length text) out))) (f (eqb-true n 0 e)))
      go false e d = absurd (Memᴰ.not-nil d)

  call_signed : (c : Call) (x : Sent) → Memᴰ x (signed (own r) (writes c r s)) → Signed x
  unfolding write_state_spec write_attempt_spec
  call_signed (enter v) x d = absurd (Memᴰ.not-nil d)
  call_signed (hear-state b) x d = absurd (Memᴰ.not-nil d)
  call_signed (hear-attempt b) x d = absurd (Memᴰ.not-nil d)
  call_signed decide x d = absurd (Memᴰ.not-nil d)
  call_signed form x d = absurd (Memᴰ.not-nil d)
  call_signed recover x d = absurd (Memᴰ.not-nil d)
  call_signed (write-state out) x d = by-refusal (write_state_refusal s r (length out)) (state_line s.view (own r) (tells r)) out (state-names (length out)) x d
  call_signed (write-attempt out) x d = by-refusal (write_attempt_refusal s r (length out)) (attempt_line s.view (own r)) out (attempt-names (length out)) x d

-- ---- histories

module _ (S : Setting) where
  called-signed : (p : ℕ) (lost : Bool) (k : ℕ) (c : Call) (W : World) (h : Head) → W.head p ≡ h → History S W
      → ((x : Sent) → Memᴰ x W.sent → Signed x) → (x : Sent) → Memᴰ x (called S p lost k c h W).sent → Signed x
  called-signed p lost k c W unstarted at h old x d = old x d
  called-signed p lost k c W (running r s) at h old x d =
      let mine : own r ≡ p = own_is S p r s (runs-at S (group_in S) (reading S) p W r s at (fine S h)) in
      ⊎_elim
      (λ e. call_signed r (given lost s) c x (subst (λ (q : ℕ). Memᴰ x (signed q (writes c r (given lost s)))) (sym mine) e))
      (old x)
      (Memᴰ.append_cases (signed p (writes c r (given lost s))) d)

  step-signed : (e : Event) (W : World) → History S W → ((x : Sent) → Memᴰ x W.sent → Signed x) → (x : Sent) → Memᴰ x (step S e W).sent → Signed x
  unfolding step
  step-signed (start p words q) W h old x d = old x d
  step-signed (call p lost k c) W h old x d = called-signed p lost k c W (W.head p) refl h old x d

  pub sent-signed : {W : World} → History S W → (x : Sent) → Memᴰ x W.sent → Signed x
  unfolding empty
  sent-signed begin x d = absurd (Memᴰ.not-nil d)
  sent-signed (more {W = W} e m h) x d = step-signed e W h (λ y z. sent-signed h y z) x d

  -- so a line that a head wrote may be heard
  pub may-hear : {W : World} → History S W → (p : ℕ) (bytes : List ℕ) → Memᴰ (record { by = p; bytes = bytes }) W.sent → SentBefore W.sent bytes (read_whole bytes).line
  may-hear {W} h p bytes d = go (read_whole bytes).line (sent-signed h (record { by = p; bytes = bytes }) d)
    where
      go : (l : Line) → Names p l → SentBefore W.sent bytes l
      go (StateLine v x) e = subst (λ (q : ℕ). Memᴰ (record { by = q; bytes = bytes }) W.sent) (sym e) d
      go (AttemptLine v x) e = subst (λ (q : ℕ). Memᴰ (record { by = q; bytes = bytes }) W.sent) (sym e) d
      go (Broken k) e = tt
