-- What a head of the bench does is what its history events do, call by call: both are the call's own definition on the head's record, session and stores. A line that is
-- delivered was kept, so its sender wrote it before.
use mathlib.Core.Bool.{Bool, true, false, cond}
use mathlib.Core.List.Memᴰ
use mathlib.Core.List.{List, [], ◌∷◌, ◌++◌, Memᴰ}
use mathlib.Core.Logic.{◌⊎◌, inl, inr}
use mathlib.Core.Path.{◌≡◌, refl, sym, ap, subst, ◌∙◌}
use Prim.Native.Nat.{ℕ, ◌≤◌, ◌<◌}
use native.Mathlib.Omega.{arith}
use lib.Dec.{eqb}
use lib.ListN.{length, set}
use lib.Seq.{set-get_or}
use Rattle.group.specs.Answers.{Said, started, recovered, entered, heard, attempted, no-quorum, numbers-run-out, no_place, formed, cut, written, refused}
use Rattle.record.specs.Layout.{primary}
use Rattle.head.specs.declared.session.Session.{Session}
use Rattle.lines.specs.Reading.{read_whole}
use Rattle.head.specs.Refusals.{hear_state_refusal, hear_attempt_refusal}
use Rattle.head.specs.Calls.{Ended, Wrote, refuses, heard_state, heard_attempt, write_state_spec, write_attempt_spec, enter_spec, hear_state_spec, hear_attempt_spec, decide_spec, form_spec}
use Rattle.history.specs.Setting.{Setting}
use Rattle.history.specs.Statement.{Sent, running, World, Call, enter, hear-state, hear-attempt, decide, form, recover, write-state, write-attempt, Event, call, back, leaves, forms, signed, lines_of, step, SentBefore, Given, History, in_order, insert as put}
use Rattle.history.specs.Statement as history
use Rattle.history.proofs.Signed.{may-hear}
use Rattle.keeping.specs.declared.Kept.{Kept}
use Rattle.seat.specs.declared.Seat.{Seat}
use Rattle.deeds.specs.declared.What.{What}
use Rattle.deeds.specs.declared.What.TheVariants as what
use Rattle.keeping.specs.Keeping.{blank, pushed, kept_at, is_line, line_of}
use Rattle.seat.specs.Seat.{sent_line, state_sent, attempt_sent, sent_on_entry, sent_on_decision, stores_of}
use Rattle.deeds.specs.Told.{Told, call as says, announced}
use Rattle.seat.specs.Played.{Played, does_nothing, after_call, enters, listened, hears_state, hears_attempt, decides, forms as forms_by, recovers, arms, played_by}
use Rattle.formed.specs.Formed.{newly, noted}
use Rattle.worlds.specs.Bench.{seat_at}
use Rattle.head.proofs.Laws.Writing.{state-hands-back, attempt-hands-back}
use Rattle.printed.specs.Printed.{sends_state, sends_attempt, hears, events_by, after}
use Rattle.printed.proofs.Listed.{noted-none, noted-put, formed-some}
use Rattle.printed.proofs.Follows.{KeptIn, kept-pushed, sent-written, Moves, moves-then, call-sent, call-formed, call-moves, Follows, follows-moved}

-- ---- what calls leave as it was

hear-state-words : (s : Session) (r bytes : List ℕ) → (hear_state_spec s r bytes).words ≡ r
unfolding hear_state_spec
hear-state-words s r bytes = go (eqb (hear_state_refusal s r bytes) 0)
  where
    go : (b : Bool)
        → (cond b (record { answer = heard; words = r; session = heard_state s (read_whole bytes).line (read_whole bytes).state }) (refuses (hear_state_refusal s r bytes) r s)).words ≡ r
    go true = refl
    go false = refl

hear-attempt-words : (s : Session) (r bytes : List ℕ) → (hear_attempt_spec s r bytes).words ≡ r
unfolding hear_attempt_spec
hear-attempt-words s r bytes = go (eqb (hear_attempt_refusal s r bytes) 0)
  where
    go : (b : Bool) → (cond b (record { answer = heard; words = r; session = heard_attempt s (read_whole bytes).line }) (refuses (hear_attempt_refusal s r bytes) r s)).words ≡ r
    go true = refl
    go false = refl

-- no session formed, or it was put in its place
abbrev pub Roomy : ℕ → List ℕ → Type 0
Roomy w L = (w ≡ 0) ⊎ (noted w L ≡ put w L)

-- a group line was taken already, and a view is entered as the setting has it
abbrev pub Allowed : Setting → What → Type 0
Allowed S (what.Refuse n) = Unit {0}
Allowed S (what.Announce v m) = Unit {0}
Allowed S (what.Open core least) = ⊥
Allowed S (what.Start core least) = ⊥
Allowed S (what.Enter v m) = (v < 4294967296) × (m ≡ S.members v)
Allowed S (what.HearState which) = Unit {0}
Allowed S (what.HearAttempt which) = Unit {0}
Allowed S what.Decide = Unit {0}
Allowed S what.Form = Unit {0}
Allowed S what.Recover = Unit {0}
Allowed S (what.Arm k) = Unit {0}

module _ (S : Setting) (room : (W : World) → History S W → length (in_order W.formed) ≤ 1001) (t : List Seat) (L : List ℕ) (W : World) (f : Follows S t L W) (p from : ℕ) (small : p < 16) (near : from < 16) where
  abbrev h : Seat
  h = seat_at t p

  abbrev g : Seat
  g = seat_at t from

  -- what head p did, and its history events
  abbrev Next : Played → List Event → Type 0
  Next r es = Follows S (set t p r.seat) (noted r.formed L) (after S es W)

  none-formed : (W' : World) → W'.formed ≡ W.formed → noted 0 L ≡ in_order W'.formed
  none-formed W' e = noted-none L ∙ f.listed ∙ ap in_order (sym e)

  kept_on : (W' : World) → ((x : Sent) → Memᴰ x W.sent → Memᴰ x W'.sent) → KeptIn p h.sent W'.sent
  kept_on W' m which e = m _ (f.kept p small which e)

  does-nothing : (r : Told) → Next (does_nothing h r 0) []
  unfolding after
  does-nothing r = rw (set-get_or t p _, noted-none L) f

  does-arm : (k : ℕ) → Next (arms h k) []
  unfolding after
  does-arm k =
      follows-moved S t L W f p small (arms h k).seat W (record { history = f.history; here = f.heads p small; there = λ q n. refl; sent = λ x d. d })
      (noted 0 L) (kept_on W (λ x d. d)) (none-formed W refl)

  -- ---- a call, and the line that it sends

  module _ (k : ℕ) (c : Call) (given : Given W c) where
    abbrev W₁ : World
    W₁ = step S (call p false k c) W

    one-call : Moves S p (running (leaves S c k h.words h.session) (back S c k h.words h.session)) W W₁
    one-call = call-moves S p k c W h.words h.session (f.heads p small) f.history given

    one-forms : W₁.formed ≡ forms c k h.words h.session ++ W.formed
    one-forms = call-formed S p k c W h.words h.session (f.heads p small)

  -- after the line was sent: head p has record r and session s, and keeps these lines
  record Sends (r : List ℕ) (s : Session) (sent : List Kept) (W' : World) : Type 0 where
    moves : Moves S p (running r s) W W'
    kept : KeptIn p sent W'.sent
    same : W'.formed ≡ W.formed

  module _ (r : List ℕ) (s : Session) (V₁ : World) (m : Moves S p (running r s) W V₁) (same : V₁.formed ≡ W.formed) where
    sends_none : Sends r s h.sent V₁
    sends_none = record { moves = m; kept = kept_on V₁ m.sent; same = same }

    abbrev V₂ : Call → World
    V₂ c = step S (call p false 0 c) V₁

    -- a call that writes: it leaves record and session, forms nothing, and writes what w says
    module _ (c : Call) (w : Wrote) (given : Given V₁ c) (stays : leaves S c 0 r s ≡ r) (goes : back S c 0 r s ≡ s) (line : history.writes c r s ≡ lines_of w) (none : forms c 0 r s ≡ []) where
      line-moves : Moves S p (running r s) W (V₂ c)
      line-moves =
          moves-then S p (running r s) (running r s) W V₁ (V₂ c) m
          (subst (λ (x : Session). Moves S p (running r x) V₁ (V₂ c)) goes
          (subst (λ (x : List ℕ). Moves S p (running x (back S c 0 r s)) V₁ (V₂ c)) stays (call-moves S p 0 c V₁ r s m.here m.history given)))

      sends-line : Sends r s (pushed (sent_line w) h.sent) (V₂ c)
      sends-line = record {
        moves = line-moves;
        kept = kept-pushed p (sent_line w) h.sent (V₂ c).sent
            (λ e. subst (λ (M : List Sent). Memᴰ (record { by = p; bytes = line_of (sent_line w) }) M)
            (sym (call-sent S p 0 c V₁ r s m.here ∙ ap (λ (bs : List (List ℕ)). signed p bs ++ V₁.sent) line)) (Memᴰ.append_left V₁.sent (sent-written p w e)))
            (kept_on (V₂ c) line-moves.sent);
        same = call-formed S p 0 c V₁ r s m.here ∙ ap (λ (M : List ℕ). M ++ V₁.formed) none ∙ same;
      }

    sends-state : Sends r s (pushed (state_sent s r) h.sent) (V₂ (write-state blank))
    sends-state = sends-line (write-state blank) (write_state_spec s r blank) tt refl (state-hands-back s r blank) refl refl

    sends-attempt : Sends r s (pushed (attempt_sent s r) h.sent) (V₂ (write-attempt blank))
    sends-attempt = sends-line (write-attempt blank) (write_attempt_spec s r blank) tt refl (attempt-hands-back s r blank) refl refl

    on-entry : (a : Said) → Sends r s (sent_on_entry a s r h.sent) (after S (sends_state p a) V₁)
    unfolding after
    on-entry entered = sends-state
    on-entry started = sends_none
    on-entry recovered = sends_none
    on-entry heard = sends_none
    on-entry attempted = sends_none
    on-entry no-quorum = sends_none
    on-entry numbers-run-out = sends_none
    on-entry no_place = sends_none
    on-entry formed = sends_none
    on-entry cut = sends_none
    on-entry (written n) = sends_none
    on-entry (refused n) = sends_none

    on-decision : (a : Said) → Sends r s (sent_on_decision a s r h.sent) (after S (sends_attempt p a) V₁)
    unfolding after
    on-decision attempted = sends-attempt
    on-decision started = sends_none
    on-decision recovered = sends_none
    on-decision entered = sends_none
    on-decision heard = sends_none
    on-decision no-quorum = sends_none
    on-decision numbers-run-out = sends_none
    on-decision no_place = sends_none
    on-decision formed = sends_none
    on-decision cut = sends_none
    on-decision (written n) = sends_none
    on-decision (refused n) = sends_none

  sends-follow : (r : List ℕ) (s : Session) (sent : List Kept) (a : Said) (W' : World) → Sends r s sent W' → Follows S (set t p (after_call r s sent a 0).seat) (noted 0 L) W'
  sends-follow r s sent a W' x =
      follows-moved S t L W f p small (after_call r s sent a 0).seat W' x.moves (noted 0 L) x.kept (none-formed W' x.same)

  does-enter : (v : ℕ) → v < 4294967296 → Next (enters h v (S.members v)) (events_by p h g (what.Enter v (S.members v)))
  unfolding after
  does-enter v l =
      let e = enter_spec h.session h.words v (S.members v) (stores_of h) in
      sends-follow e.words e.session (sent_on_entry e.answer e.session e.words h.sent) e.answer
      (after S (sends_state p e.answer) (W₁ (stores_of h) (enter v) l))
      (on-entry e.words e.session (W₁ (stores_of h) (enter v) l) (one-call (stores_of h) (enter v) l) (one-forms (stores_of h) (enter v) l) e.answer)

  does-decide : Next (decides h) (events_by p h g what.Decide)
  unfolding after
  does-decide =
      let e = decide_spec h.session h.words (stores_of h) in
      sends-follow e.words e.session (sent_on_decision e.answer e.session e.words h.sent) e.answer
      (after S (sends_attempt p e.answer) (W₁ (stores_of h) decide tt))
      (on-decision e.words e.session (W₁ (stores_of h) decide tt) (one-call (stores_of h) decide tt) (one-forms (stores_of h) decide tt) e.answer)

  -- ---- hearing

  -- a line kept by its sender may be heard
  heard-before : (which : ℕ) → is_line (kept_at g.sent which).len ≡ true → SentBefore W.sent (line_of (kept_at g.sent which)) (read_whole (line_of (kept_at g.sent which))).line
  heard-before which e = may-hear S f.history from (line_of (kept_at g.sent which)) (f.kept from near which e)

  listens : (s : Session) (a : Said) (W' : World) → Moves S p (running h.words s) W W' → W'.formed ≡ W.formed → Follows S (set t p (listened h s a).seat) (noted 0 L) W'
  listens s a W' m e = follows-moved S t L W f p small (listened h s a).seat W' m (noted 0 L) (kept_on W' m.sent) (none-formed W' e)

  -- a call that hears: it leaves the record and forms nothing
  does-hear : (b : Bool) (c : Call) (o : Ended) → (b ≡ true → Given W c) → leaves S c 0 h.words h.session ≡ h.words → back S c 0 h.words h.session ≡ o.session → forms c 0 h.words h.session ≡ []
      → Next (cond b (listened h o.session o.answer) (does_nothing h (says (refused 14)) 0)) (cond b (call p false 0 c ∷ []) [])
  unfolding after
  does-hear true c o given same goes none =
      listens o.session o.answer (step S (call p false 0 c) W)
      (subst (λ (x : Session). Moves S p (running h.words x) W (step S (call p false 0 c) W)) goes
      (subst (λ (x : List ℕ). Moves S p (running x (back S c 0 h.words h.session)) W (step S (call p false 0 c) W)) same (one-call 0 c (given refl))))
      (one-forms 0 c (given refl) ∙ ap (λ (M : List ℕ). M ++ W.formed) none)
  does-hear false c o given same goes none = does-nothing (says (refused 14))

  does-hear-state : (which : ℕ) → Next (hears_state h g which) (hears p hear-state (kept_at g.sent which))
  unfolding hears
  does-hear-state which =
      let bytes = line_of (kept_at g.sent which) in
      does-hear (is_line (kept_at g.sent which).len) (hear-state bytes) (hear_state_spec h.session h.words bytes) (heard-before which) (hear-state-words h.session h.words bytes) refl refl

  does-hear-attempt : (which : ℕ) → Next (hears_attempt h g which) (hears p hear-attempt (kept_at g.sent which))
  unfolding hears
  does-hear-attempt which =
      let bytes = line_of (kept_at g.sent which) in
      does-hear (is_line (kept_at g.sent which).len) (hear-attempt bytes) (hear_attempt_spec h.session h.words bytes) (heard-before which) (hear-attempt-words h.session h.words bytes) refl refl

  -- ---- forming and recovering

  -- the session that a form call stored in place of a, if it stored one
  form-listed : (a w : ℕ) (W' : World) → History S W' → W'.formed ≡ history.newly a w ++ W.formed → (noted (newly a w) L ≡ in_order W'.formed) × Roomy (newly a w) L
  unfolding newly in_order
  form-listed a w W' k e = go (eqb w a) e
    where
      go : (b : Bool) → W'.formed ≡ cond b [] (w ∷ []) ++ W.formed → (noted (cond b 0 w) L ≡ in_order W'.formed) × Roomy (cond b 0 w) L
      go true e = (none-formed W' e, inl refl)
      go false e =
          let some : w ≡ 0 → ⊥ = λ z. formed-some S W' k (subst (λ (M : List ℕ). Memᴰ 0 M) (sym e) (Memᴰ.head (sym z))) in
          let order : in_order W'.formed ≡ put w L = ap in_order e ∙ ap (put w) (sym f.listed) in
          let placed = noted-put w L some (omega (arith, ap length order, room W' k)) in
          (placed ∙ sym order, inr placed)

  does-form : Next (forms_by h) (events_by p h g what.Form) × Roomy (forms_by h).formed L
  unfolding after
  does-form =
      let m = one-call (stores_of h) form tt in
      let l = form-listed (primary h.words) (primary (form_spec h.session h.words (stores_of h)).words) (W₁ (stores_of h) form tt) m.history (one-forms (stores_of h) form tt) in
      (follows-moved S t L W f p small (forms_by h).seat (W₁ (stores_of h) form tt) m _ (kept_on (W₁ (stores_of h) form tt) m.sent) l.0, l.1)

  does-recover : Next (recovers h) (events_by p h g what.Recover)
  unfolding after
  does-recover =
      let m = one-call (stores_of h) recover tt in
      follows-moved S t L W f p small (recovers h).seat (W₁ (stores_of h) recover tt) m _ (kept_on (W₁ (stores_of h) recover tt) m.sent) (none-formed (W₁ (stores_of h) recover tt) (one-forms (stores_of h) recover tt))

  -- ---- all of them

  pub acts-follow : (w : What) → Allowed S w → Follows S (set t p (played_by p h g w).seat) (noted (played_by p h g w).formed L) (after S (events_by p h g w) W)
  acts-follow (what.Refuse n) a = does-nothing (says (refused n))
  acts-follow (what.Announce v m) a = does-nothing announced
  acts-follow (what.Open core least) a = absurd a
  acts-follow (what.Start core least) a = absurd a
  acts-follow (what.Enter v m) (l, e) = subst (λ (x : ℕ). Next (enters h v x) (events_by p h g (what.Enter v x))) (sym e) (does-enter v l)
  acts-follow (what.HearState which) a = does-hear-state which
  acts-follow (what.HearAttempt which) a = does-hear-attempt which
  acts-follow what.Decide a = does-decide
  acts-follow what.Form a = does-form.0
  acts-follow what.Recover a = does-recover
  acts-follow (what.Arm k) a = does-arm k

  heard-none : (b : Bool) (x y : Played) → x.formed ≡ 0 → y.formed ≡ 0 → (cond b x y).formed ≡ 0
  heard-none true x y e f = e
  heard-none false x y e f = f

  pub acts-room : (w : What) → Allowed S w → Roomy (played_by p h g w).formed L
  acts-room (what.Refuse n) a = inl refl
  acts-room (what.Announce v m) a = inl refl
  acts-room (what.Open core least) a = absurd a
  acts-room (what.Start core least) a = absurd a
  acts-room (what.Enter v m) a = inl refl
  acts-room (what.HearState which) a =
      let o = hear_state_spec h.session h.words (line_of (kept_at g.sent which)) in
      inl (heard-none (is_line (kept_at g.sent which).len) (listened h o.session o.answer) (does_nothing h (says (refused 14)) 0) refl refl)
  acts-room (what.HearAttempt which) a =
      let o = hear_attempt_spec h.session h.words (line_of (kept_at g.sent which)) in
      inl (heard-none (is_line (kept_at g.sent which).len) (listened h o.session o.answer) (does_nothing h (says (refused 14)) 0) refl refl)
  acts-room what.Decide a = inl refl
  acts-room what.Form a = does-form.1
  acts-room what.Recover a = inl refl
  acts-room (what.Arm k) a = inl refl
