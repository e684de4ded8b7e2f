-- The group line: the bench starts its sixteen heads one after the other, and so does the history, each head once and on words that hold nothing.
use mathlib.Core.Bool.{Bool, true, cond}
use mathlib.Core.List.{List, [], ◌∷◌}
use mathlib.Core.Logic.{⊎_elim}
use mathlib.Core.Path.{◌≡◌, refl, sym, ap, subst, ◌∙◌}
use Prim.Native.Nat.{ℕ, zero, suc, ◌+◌, ◌-◌, ◌≤◌, ◌<◌}
use native.Mathlib.Decide.{ℕ_discrete}
use native.Mathlib.Omega.{arith}
use borrow.Author.Tests.{le-leb, lt-leb}
use lib.ListN.{length, get_or, set, replicate, length-set, length-replicate, get_or-replicate}
use Rattle.loops.proofs.Laws.Order.{lt-or-ge}
use Rattle.record.specs.Start.{start_spec, taken_least}
use Rattle.head.specs.Session.{no_session}
use Rattle.history.specs.Setting.{Setting}
use Rattle.history.specs.Statement.{Sent, Head, unstarted, running, World, start, empty, step, History, begin, more, in_order, insert as put}
use Rattle.history.proofs.Invariant.{put-here, put-there}
use Rattle.keeping.specs.declared.Kept.{Kept}
use Rattle.seat.specs.declared.Seat.{Seat}
use Rattle.keeping.specs.Keeping.{no_line, kept_at, is_line}
use Rattle.seat.specs.Seat.{empty_seat}
use Rattle.seat.specs.Played.{starts}
use Rattle.worlds.specs.Bench.{seat_at, start_last}
use Rattle.printed.specs.Printed.{starting, after}
use Rattle.printed.proofs.Follows.{KeptIn, not-kept, head_of, Follows, seat-here, seat-there}

-- ---- a head before its group line

empty-kept : (which : ℕ) → kept_at empty_seat.sent which ≡ no_line
unfolding kept_at
empty-kept which =
    ⊎_elim
    (λ l. ap (λ (b : Bool). cond b (get_or (replicate 4 no_line) which (record { len = 0; bytes = [] })) no_line) (le-leb which 3 (omega arith)) ∙ get_or-replicate 4 which no_line _ l)
    (λ g. ap (λ (b : Bool). cond b (get_or (replicate 4 no_line) which (record { len = 0; bytes = [] })) no_line) (lt-leb which 3 (omega arith)))
    (lt-or-ge which 4)

none_kept : (p : ℕ) (L : List Sent) → KeptIn p empty_seat.sent L
none_kept p L which e = not-kept (subst (λ (k : Kept). is_line k.len ≡ true) (empty-kept which) e)

empty-long : length empty_seat.words ≡ 52
empty-long = length-replicate {A = ℕ} 52 0

module _ (S : Setting) (given : ℕ) (takes : taken_least given ≡ S.least) where
  -- all but the last n heads are started
  pub record Begun (n : ℕ) (t : List Seat) (W : World) : Type 0 where
    pub history : History S W
    pub long : length t ≡ 16
    pub started : (p : ℕ) → p + n < 16 → W.head p ≡ head_of (seat_at t p)
    pub rest : (p : ℕ) → 16 ≤ p + n → W.head p ≡ unstarted
    pub waiting : (p : ℕ) → p < 16 → 16 ≤ p + n → (seat_at t p).words ≡ empty_seat.words
    pub unsent : (p : ℕ) → p < 16 → (seat_at t p).sent ≡ empty_seat.sent
    pub formed : W.formed ≡ S.core ∷ []

  module _ (n : ℕ) (t : List Seat) (W : World) (few : n < 16) (b : Begun (suc n) t W) where
    abbrev i : ℕ
    i = 15 - n

    abbrev h : Seat
    h = (starts (seat_at t i) i S.core given).seat

    abbrev W₁ : World
    W₁ = step S (start i empty_seat.words given) W

    abbrev first : Head
    first = running (start_spec empty_seat.words i S.core given).rec no_session

    seat-is : seat_at (set t i h) i ≡ h
    seat-is = seat-here t i h (omega (arith, b.long))

    head-is : head_of h ≡ first
    head-is = ap (λ (r : List ℕ). running (start_spec r i S.core given).rec no_session) (b.waiting i (omega arith) (omega arith))

    sent_is : h.sent ≡ (seat_at t i).sent
    sent_is = refl

    start-here : W₁.head i ≡ first
    unfolding step
    start-here = put-here i first W.head

    start-there : (q : ℕ) → (q ≡ i → ⊥) → W₁.head q ≡ W.head q
    unfolding step
    start-there q m = put-there i first W.head q m

    one-started : (p : ℕ) → p + n < 16 → Dec (p ≡ i) → W₁.head p ≡ head_of (seat_at (set t i h) p)
    one-started p l (yes e) = ap W₁.head e ∙ start-here ∙ sym head-is ∙ ap head_of (sym seat-is) ∙ ap (λ (q : ℕ). head_of (seat_at (set t i h) q)) (sym e)
    one-started p l (no m) = start-there p m ∙ b.started p (omega (arith, m)) ∙ ap head_of (sym (seat-there t i h p m))

    one-unsent : (p : ℕ) → p < 16 → Dec (p ≡ i) → (seat_at (set t i h) p).sent ≡ empty_seat.sent
    one-unsent p l (yes e) = ap (λ (q : ℕ). (seat_at (set t i h) q).sent) e ∙ ap (λ (x : Seat). x.sent) seat-is ∙ sent_is ∙ b.unsent i (omega arith)
    one-unsent p l (no m) = ap (λ (x : Seat). x.sent) (seat-there t i h p m) ∙ b.unsent p l

    one-formed : W₁.formed ≡ W.formed
    unfolding step
    one-formed = refl

    one_more : Begun n (set t i h) W₁
    one_more = record {
      history = more (start i empty_seat.words given) (record { seat = omega arith; once = b.rest i (omega arith); long = empty-long; takes = takes }) b.history;
      long = length-set t i h ∙ b.long;
      started = λ p l. one-started p l (ℕ_discrete p i);
      rest = λ p l. start-there p (λ e. omega (arith, e)) ∙ b.rest p (omega arith);
      waiting = λ p l g. ap (λ (x : Seat). x.words) (seat-there t i h p (λ e. omega (arith, e))) ∙ b.waiting p l (omega arith);
      unsent = λ p l. one-unsent p l (ℕ_discrete p i);
      formed = one-formed ∙ b.formed;
    }

  starts-follow : (n : ℕ) (t : List Seat) (W : World) → n ≤ 16 → Begun n t W → Follows S (start_last S.core given n t) (S.core ∷ []) (after S (starting given n) W)
  unfolding start_last starting after in_order put
  starts-follow zero t W l b = record {
    history = b.history;
    long = b.long;
    heads = λ p k. b.started p (omega arith);
    kept = λ p k. subst (λ (x : List Kept). KeptIn p x W.sent) (sym (b.unsent p k)) (none_kept p W.sent);
    listed = sym (ap in_order b.formed);
  }
  starts-follow (suc n) t W l b = starts-follow n _ _ (omega arith) (one_more n t W l b)

  -- THE GROUP LINE
  pub group-follows : Follows S (start_last S.core given 16 (replicate 16 empty_seat)) (S.core ∷ []) (after S (starting given 16) (empty S))
  unfolding empty
  group-follows =
      starts-follow 16 (replicate 16 empty_seat) (empty S) (omega arith)
      record {
        history = begin;
        long = length-replicate 16 empty_seat;
        started = λ p l. absurd (omega arith);
        rest = λ p l. refl;
        waiting = λ p l g. ap (λ (x : Seat). x.words) (get_or-replicate 16 p empty_seat _ l);
        unsent = λ p l. ap (λ (x : Seat). x.sent) (get_or-replicate 16 p empty_seat _ l);
        formed = refl;
      }
