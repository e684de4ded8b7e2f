-- Writing a state line or an attempt line: the line reads back as the record's own values, or as an attempt of its view, so it says what the chain's lines say.
use mathlib.Core.Bool.{Bool, true, false, cond}
use mathlib.Core.Logic.{◌⊎◌, inl, inr, ⊎_elim}
use mathlib.Core.Path.{◌≡◌, refl, sym, ap, subst, ◌∙◌}
use mathlib.Core.List.Memᴰ
use mathlib.Core.List.{List, [], ◌∷◌, ◌++◌}
use Prim.Native.Nat.{ℕ, ◌≤◌}
use native.Mathlib.Omega.{arith}
use lib.Dec.{eqb}
use lib.ListN.{length, take, drop, get_or}
use borrow.Author.Tests.{eqb-true, eqb-false, lt-ltb}
use Rattle.loops.proofs.Laws.Truth.{passes-or-fails}
use Rattle.group.specs.Answers.{written, refused}
use Rattle.record.specs.Layout.{own, formed_for}
use Rattle.record.specs.Whole.{whole}
use Rattle.record.proofs.Laws.Layout.{own-small}
use Rattle.record.proofs.Laws.Whole.{whole_parts}
use Rattle.recovery.proofs.Laws.Still.{mended-whole}
use Rattle.state.specs.Values.{no_state}
use Rattle.lines.specs.Reading.{read_whole}
use Rattle.lines.specs.Writing.{state_line, attempt_line}
use Rattle.lines.specs.Theorems.{HeadKept}
use Rattle.lines.specs.Read.{Line, Read, StateLine, AttemptLine, Broken}
use Rattle.lines.proofs.Laws.Theorems.{whole_back}
use Rattle.telling.specs.Telling.{tells}
use Rattle.telling.proofs.Laws.Telling.{tells-number, tells-primary, tells-formed, used-told, tells-keeps, tells-tidy}
use Rattle.head.specs.declared.session.Session.{Session}
use Rattle.head.specs.Refusals.{write_state_refusal, write_attempt_refusal}
use Rattle.head.specs.Calls.{Wrote as Output, writes, write_state_spec, write_attempt_spec}
use Rattle.head.proofs.Laws.Refusals.{may-write-state, may-write-attempt}
use Rattle.head.proofs.Laws.Fits.{Fitting, usable-stage}
use Rattle.chain.specs.Model.{Group}
use Rattle.chain.specs.Words.{Rec, Said as Saying, Self}
use Rattle.chain.specs.World.{Phase, Phase.undecided as undecided, Phase.trying as trying, Phase.primary as prime, live, Reached, does, turn, idles, writes-state, writes-attempt}
use Rattle.chain.proofs.Laws.Words.{guard-same}
use Rattle.history.specs.Setting.{Setting}
use Rattle.history.specs.Statement.{Sent, Head, running, World, lines_of, signed}
use Rattle.history.proofs.Abstraction.{rec_of, said_of, heard_of, vol_by, head_rec, head_vol, Wrote, Tried, world_of}
use Rattle.history.proofs.Invariant.{Live, Runs, moved, put-here, moved-frame, moved-quiet}
use Rattle.history.proofs.Calls.Going.{goes_on}

-- ---- what a line says

abbrev view_in : Line → ℕ
view_in (StateLine v x) = v
view_in (AttemptLine v x) = v
view_in (Broken k) = 0

abbrev kind_in : Line → ℕ
kind_in (StateLine v x) = 1
kind_in (AttemptLine v x) = 2
kind_in (Broken k) = 0

module _ (r : List ℕ) (s : Session) (good : whole r ≡ true) (f : Fitting s r) where
  head-kept : HeadKept s.view (own r)
  head-kept = record { some = omega (arith, f.viewed); view = omega (arith, f.view, (whole_parts r good).view); sender = own-small r }

  pub state-reads : read_whole (state_line s.view (own r) (tells r)) ≡ record { line = StateLine s.view (own r); state = tells r }
  state-reads =
      whole_back (record { line = StateLine s.view (own r); state = tells r }) (record { head = head-kept; tidy = tells-tidy r good; rules = tells-keeps r good })

  pub attempt-reads : read_whole (attempt_line s.view (own r)) ≡ record { line = AttemptLine s.view (own r); state = no_state }
  attempt-reads = whole_back (record { line = AttemptLine s.view (own r); state = no_state }) (head-kept, refl)

-- the state line carries the record's values
pub tells-self : (r : List ℕ) → whole r ≡ true → Self (rec_of r) (said_of (tells r))
tells-self r e = record {
  num = tells-number r;
  prim = tells-primary r;
  formed = guard-same (λ q. get_or (tells r).formed q 0) (formed_for r) (tells-formed r);
  lists = λ w n (j, l, t).
      let u = used-told r e j l (λ z. n (sym t ∙ z)) in
      (u.0, omega (arith, u.1, (tells-tidy r e).count), ap (λ (b : Bool). cond b (get_or (tells r).places u.0 0) 0) (lt-ltb u.0 (tells r).count u.1) ∙ u.2 ∙ t);
}

-- ---- the output's first characters are the line

pub take-front : (a b : List ℕ) → take (length a) (a ++ b) ≡ a
take-front [] b = refl
take-front (x ∷ a) b = ap (λ (l : List ℕ). x ∷ l) (take-front a b)

-- ---- the calls

module _ (S : Setting) (G : Group) (p : ℕ) (W : World) (r : List ℕ) (s : Session) (at : W.head p ≡ running r s) (i : Runs S p r s) (k : Reached G (world_of S W)) where
  -- the world after a call that wrote w
  abbrev next : List (List ℕ) → Session → World
  next bs s' = moved p (running r s') (signed p bs ++ W.sent) W.formed W

  pub record Writes (w : Output) : Type 1 where
    pub reached : Reached G (world_of S (next (lines_of w) w.session))
    pub ok : Runs S p r w.session

  same-rec : head_rec S p ((moved p (running r s) W.sent W.formed W).head p) ≡ head_rec S p (W.head p)
  same-rec = ap (λ (h : Head). head_rec S p h) (put-here p (running r s) W.head ∙ sym at)

  same-vol : head_vol p ((moved p (running r s) W.sent W.formed W).head p) ≡ head_vol p (W.head p)
  same-vol = ap (λ (h : Head). head_vol p h) (put-here p (running r s) W.head ∙ sym at)

  nothing : Reached G (world_of S (next [] s))
  unfolding world_of
  nothing =
      does p k (turn (moved-frame S G p (running r s) W.sent W.formed W) (moved-quiet S G p (running r s) W.formed W) (record { formed = λ F w. w; kept = λ F w. w })
      (idles same-rec same-vol))

  -- one line, or none where the call is refused
  by-refusal : (n : ℕ) (text out : List ℕ) → (n ≡ 0 → Reached G (world_of S (next (text ∷ []) s))) → Writes (writes n s text out)
  unfolding writes
  by-refusal n text out f = go (eqb n 0) refl
    where
      go : (b : Bool) → eqb n 0 ≡ b
          → Writes (cond b (record { answer = written (length text); session = s; out = text ++ drop (length text) out }) (record { answer = refused n; session = s; out = out }))
      go true e = record {
        reached = subst (λ (l : List ℕ). Reached G (world_of S (next (l ∷ []) s))) (sym (take-front text (drop (length text) out))) (f (eqb-true n 0 e));
        ok = i;
      }
      go false e = record { reached = nothing; ok = i }

  module _ (v : Live S r s) where
    rec-is : head_rec S p (W.head p) ≡ rec_of r
    rec-is = ap (λ (h : Head). head_rec S p h) at ∙ ap rec_of (mended-whole r v.good)

    -- ---- a state line

    abbrev text : List ℕ
    text = state_line s.view (own r) (tells r)

    abbrev told : Sent
    told = record { by = p; bytes = text }

    new-state : (u x : ℕ) (m : Saying) → Wrote (told ∷ W.sent) u x m → Wrote W.sent u x m ⊎ ((u ≡ (head_rec S p (W.head p)).view) × (x ≡ p) × Self (head_rec S p (W.head p)) m)
    new-state u x m w = ⊎_elim (λ e. inr (new e)) (λ d. inl (record { bytes = w.bytes; at = d; reads = w.reads; is = w.is })) (Memᴰ.cases_cons w.at)
      where
        new : ◌≡◌ {A = Sent} (record { by = x; bytes = w.bytes }) told → (u ≡ (head_rec S p (W.head p)).view) × (x ≡ p) × Self (head_rec S p (W.head p)) m
        new e =
            let b : w.bytes ≡ text = ap (λ (y : Sent). y.bytes) e in
            let q : read_whole w.bytes ≡ record { line = StateLine s.view (own r); state = tells r } = ap read_whole b ∙ state-reads r s v.good v.fitting in
            let l : StateLine u x ≡ StateLine s.view (own r) = sym w.reads ∙ ap (λ (y : Read). y.line) q in (
              ap view_in l ∙ v.fitting.view ∙ sym (ap (λ (z : Rec). z.view) rec-is),
              ap (λ (y : Sent). y.by) e,
              subst (λ (z : Rec). Self z m) (sym rec-is) (subst (λ (z : Saying). Self (rec_of r) z) (sym (w.is ∙ ap (λ (y : Read). said_of y.state) q)) (tells-self r v.good)),
            )

    no-attempt : (u x : ℕ) → Tried (told ∷ W.sent) u x → Tried W.sent u x
    no-attempt u x w = ⊎_elim (λ e. absurd (new e)) (λ d. record { bytes = w.bytes; at = d; reads = w.reads }) (Memᴰ.cases_cons w.at)
      where
        new : ◌≡◌ {A = Sent} (record { by = x; bytes = w.bytes }) told → ⊥
        new e =
            let q : read_whole w.bytes ≡ record { line = StateLine s.view (own r); state = tells r } = ap read_whole (ap (λ (y : Sent). y.bytes) e) ∙ state-reads r s v.good v.fitting in
            let l : ◌≡◌ {A = ℕ} 2 1 = ap kind_in (sym w.reads ∙ ap (λ (y : Read). y.line) q) in
            omega arith

    state-written : s.stage ≡ 1 → Reached G (world_of S (next (text ∷ []) s))
    unfolding world_of
    state-written e =
        does p k (writes-state (heard_of p undecided s) (moved-frame S G p (running r s) (told ∷ W.sent) W.formed W) (record { formed = λ F w. w; kept = λ F w. w })
        same-rec same-vol (ap (λ (h : Head). head_vol p h) at ∙ ap (λ (n : ℕ). vol_by n p s) e) refl new-state no-attempt)

    -- ---- an attempt line

    abbrev claim : List ℕ
    claim = attempt_line s.view (own r)

    abbrev claimed : Sent
    claimed = record { by = p; bytes = claim }

    no-state : (u x : ℕ) (m : Saying) → Wrote (claimed ∷ W.sent) u x m → Wrote W.sent u x m
    no-state u x m w = ⊎_elim (λ e. absurd (new e)) (λ d. record { bytes = w.bytes; at = d; reads = w.reads; is = w.is }) (Memᴰ.cases_cons w.at)
      where
        new : ◌≡◌ {A = Sent} (record { by = x; bytes = w.bytes }) claimed → ⊥
        new e =
            let q : read_whole w.bytes ≡ record { line = AttemptLine s.view (own r); state = no_state } = ap read_whole (ap (λ (y : Sent). y.bytes) e) ∙ attempt-reads r s v.good v.fitting in
            let l : ◌≡◌ {A = ℕ} 1 2 = ap kind_in (sym w.reads ∙ ap (λ (y : Read). y.line) q) in
            omega arith

    new-attempt : (u x : ℕ) → Tried (claimed ∷ W.sent) u x → Tried W.sent u x ⊎ ((u ≡ (head_rec S p (W.head p)).view) × (x ≡ p))
    new-attempt u x w = ⊎_elim (λ e. inr (new e)) (λ d. inl (record { bytes = w.bytes; at = d; reads = w.reads })) (Memᴰ.cases_cons w.at)
      where
        new : ◌≡◌ {A = Sent} (record { by = x; bytes = w.bytes }) claimed → (u ≡ (head_rec S p (W.head p)).view) × (x ≡ p)
        new e =
            let q : read_whole w.bytes ≡ record { line = AttemptLine s.view (own r); state = no_state } = ap read_whole (ap (λ (y : Sent). y.bytes) e) ∙ attempt-reads r s v.good v.fitting in
            let l : AttemptLine u x ≡ AttemptLine s.view (own r) = sym w.reads ∙ ap (λ (y : Read). y.line) q in
            (ap view_in l ∙ v.fitting.view ∙ sym (ap (λ (z : Rec). z.view) rec-is), ap (λ (y : Sent). y.by) e)

    attempt-written : (f : Phase) → head_vol p (W.head p) ≡ live (heard_of p f s) → (f ≡ trying) ⊎ (f ≡ prime) → Reached G (world_of S (next (claim ∷ []) s))
    unfolding world_of
    attempt-written f e t =
        does p k (writes-attempt (heard_of p f s) (moved-frame S G p (running r s) (claimed ∷ W.sent) W.formed W) (record { formed = λ F w. w; kept = λ F w. w })
        same-rec same-vol e t no-state new-attempt)

  state-allowed : (room : ℕ) → write_state_refusal s r room ≡ 0 → Reached G (world_of S (next (state_line s.view (own r) (tells r) ∷ []) s))
  state-allowed room z =
      let a = may-write-state s r room z in
      state-written (goes_on S p r s i (λ e. let q : ◌≡◌ {A = ℕ} 1 0 = sym a.undecided ∙ e in omega arith)) a.undecided

  -- WRITE STATE
  pub write-state-reached : (out : List ℕ) → Writes (write_state_spec s r out)
  unfolding write_state_spec
  write-state-reached out = by-refusal (write_state_refusal s r (length out)) (state_line s.view (own r) (tells r)) out (state-allowed (length out))

  attempt-allowed : (room : ℕ) → write_attempt_refusal s r room ≡ 0 → Reached G (world_of S (next (attempt_line s.view (own r) ∷ []) s))
  attempt-allowed room z =
      let a = may-write-attempt s r room z in
      let v = goes_on S p r s i (λ e. omega (arith, a.attempted)) in
      let vol = ap (λ (h : Head). head_vol p h) at in
      ⊎_elim (λ e. attempt-written v trying (vol ∙ ap (λ (j : ℕ). vol_by j p s) (eqb-true s.stage 3 e)) (inl refl))
      (λ e. attempt-written v prime (vol ∙ ap (λ (j : ℕ). vol_by j p s) (four s.stage a.attempted (usable-stage s r a.fit) (eqb-false s.stage 3 e))) (inr refl))
      (passes-or-fails (eqb s.stage 3))
    where
      four : (n : ℕ) → 3 ≤ n → n ≤ 4 → (n ≡ 3 → ⊥) → n ≡ 4
      four n a b c = omega arith

  -- WRITE ATTEMPT
  pub write-attempt-reached : (out : List ℕ) → Writes (write_attempt_spec s r out)
  unfolding write_attempt_spec
  write-attempt-reached out = by-refusal (write_attempt_refusal s r (length out)) (attempt_line s.view (own r)) out (attempt-allowed (length out))
