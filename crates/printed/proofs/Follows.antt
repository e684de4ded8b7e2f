-- How a table of heads follows a world: the same record and session for each head, its kept lines among the lines that it wrote, the list of formed sessions in order. A
-- call on one head keeps it, since the call's own definition moves both.
use mathlib.Core.Bool.{Bool, true, false, cond}
use mathlib.Core.List.Memᴰ
use mathlib.Core.List.{List, [], ◌++◌, Memᴰ}
use mathlib.Core.Logic.{⊎_elim}
use mathlib.Core.Path.{◌≡◌, refl, sym, ap, subst, ◌∙◌}
use Prim.Native.Nat.{ℕ, zero, suc, ◌≤◌, ◌<◌}
use native.Mathlib.Decide.{ℕ_discrete}
use native.Mathlib.Omega.{arith}
use borrow.Author.Tests.{le-leb, lt-leb}
use lib.ListN.{length, take, get_or, set, length-set}
use lib.Seq.{get_or-take, get_or-set_same, get_or-set_other}
use Rattle.loops.proofs.Laws.Order.{lt-or-ge}
use Rattle.loops.proofs.Laws.Truth.{clash}
use Rattle.group.specs.Answers.{Said, started, recovered, entered, heard, attempted, no-quorum, numbers-run-out, no_place, formed, cut, written, refused}
use Rattle.head.specs.declared.session.Session.{Session}
use Rattle.head.specs.Calls.{Wrote}
use Rattle.history.specs.Setting.{Setting}
use Rattle.history.specs.Statement.{Sent, Head, running, World, Call, call, leaves, back, writes, forms, signed, line_of as line_from, lines_of, called, call_on, step, Given, History, more, in_order}
use Rattle.history.proofs.Invariant.{put-here, put-there}
use Rattle.keeping.specs.declared.Kept.{Kept}
use Rattle.seat.specs.declared.Seat.{Seat}
use Rattle.keeping.specs.Keeping.{no_line, chars, pushed, kept_at, is_line, line_of}
use Rattle.seat.specs.Seat.{sent_line}
use Rattle.worlds.specs.Bench.{seat_at}

-- ---- kept lines

-- the kept lines are lines of L that p wrote
abbrev pub KeptIn : ℕ → List Kept → List Sent → Type 0
KeptIn p sent L = (which : ℕ) → is_line (kept_at sent which).len ≡ true → Memᴰ (record { by = p; bytes = line_of (kept_at sent which) }) L

no_line-absurd : {A : Type 0} → is_line 0 ≡ true → A
unfolding is_line
no_line-absurd e = absurd (clash (sym e))

pub not-kept : {A : Type 0} → is_line no_line.len ≡ true → A
unfolding no_line
not-kept e = no_line-absurd e

older : (k : Kept) (sent : List Kept) (i : ℕ) → i < 3 → kept_at (pushed k sent) (suc i) ≡ kept_at sent i
unfolding kept_at pushed
older k sent i l =
    ap (λ (b : Bool). cond b (get_or (take 3 sent) i (record { len = 0; bytes = [] })) no_line) (le-leb (suc i) 3 l)
    ∙ get_or-take 3 sent i (record { len = 0; bytes = [] }) l
    ∙ sym (ap (λ (b : Bool). cond b (get_or sent i (record { len = 0; bytes = [] })) no_line) (le-leb i 3 (omega arith)))

oldest : (k : Kept) (sent : List Kept) (i : ℕ) → 3 ≤ i → kept_at (pushed k sent) (suc i) ≡ no_line
unfolding kept_at
oldest k sent i l = ap (λ (b : Bool). cond b (get_or (pushed k sent) (suc i) (record { len = 0; bytes = [] })) no_line) (lt-leb (suc i) 3 (omega arith))

newest : (k : Kept) (sent : List Kept) → kept_at (pushed k sent) 0 ≡ k
unfolding kept_at pushed
newest k sent = refl

-- one line more, the newest
pub kept-pushed : (p : ℕ) (k : Kept) (sent : List Kept) (L : List Sent) → (is_line k.len ≡ true → Memᴰ (record { by = p; bytes = line_of k }) L) → KeptIn p sent L → KeptIn p (pushed k sent) L
kept-pushed p k sent L new old zero =
    subst (λ (x : Kept). is_line x.len ≡ true → Memᴰ (record { by = p; bytes = line_of x }) L) (sym (newest k sent)) new
kept-pushed p k sent L new old (suc i) =
    ⊎_elim
    (λ l. subst (λ (x : Kept). is_line x.len ≡ true → Memᴰ (record { by = p; bytes = line_of x }) L) (sym (older k sent i l)) (old i))
    (λ g. subst (λ (x : Kept). is_line x.len ≡ true → Memᴰ (record { by = p; bytes = line_of x }) L) (sym (oldest k sent i g)) not-kept)
    (lt-or-ge i 3)

-- a line that a writing call sent is a line that it wrote
line-written : (p : ℕ) (a : Said) (out : List ℕ) → is_line (chars a) ≡ true → Memᴰ (record { by = p; bytes = take (chars a) out }) (signed p (line_from a out))
line-written p (written n) out e = Memᴰ.head refl
line-written p started out e = no_line-absurd e
line-written p recovered out e = no_line-absurd e
line-written p entered out e = no_line-absurd e
line-written p heard out e = no_line-absurd e
line-written p attempted out e = no_line-absurd e
line-written p no-quorum out e = no_line-absurd e
line-written p numbers-run-out out e = no_line-absurd e
line-written p no_place out e = no_line-absurd e
line-written p formed out e = no_line-absurd e
line-written p cut out e = no_line-absurd e
line-written p (refused n) out e = no_line-absurd e

pub sent-written : (p : ℕ) (w : Wrote) → is_line (sent_line w).len ≡ true → Memᴰ (record { by = p; bytes = line_of (sent_line w) }) (signed p (lines_of w))
sent-written p w e = line-written p w.answer w.out e

-- ---- one head moves

-- from world W to world W' only head p changes, and is h
pub record Moves (S : Setting) (p : ℕ) (h : Head) (W W' : World) : Type 0 where
  pub history : History S W'
  pub here : W'.head p ≡ h
  pub there : (q : ℕ) → (q ≡ p → ⊥) → W'.head q ≡ W.head q
  pub sent : (x : Sent) → Memᴰ x W.sent → Memᴰ x W'.sent

pub moves-then : (S : Setting) (p : ℕ) (h h' : Head) (W W' W'' : World) → Moves S p h W W' → Moves S p h' W' W'' → Moves S p h' W W''
moves-then S p h h' W W' W'' a b = record {
  history = b.history;
  here = b.here;
  there = λ q n. b.there q n ∙ a.there q n;
  sent = λ x d. b.sent x (a.sent x d);
}

module _ (S : Setting) (p k : ℕ) (c : Call) (W : World) (r : List ℕ) (s : Session) (at : W.head p ≡ running r s) where
  pub call-is : step S (call p false k c) W ≡ call_on S p k c r s W
  unfolding step
  call-is = ap (λ (h : Head). called S p false k c h W) at

  pub call-sent : (step S (call p false k c) W).sent ≡ signed p (writes c r s) ++ W.sent
  call-sent = ap (λ (X : World). X.sent) call-is

  pub call-formed : (step S (call p false k c) W).formed ≡ forms c k r s ++ W.formed
  call-formed = ap (λ (X : World). X.formed) call-is

  pub call-moves : History S W → Given W c → Moves S p (running (leaves S c k r s) (back S c k r s)) W (step S (call p false k c) W)
  call-moves h g = record {
    history = more (call p false k c) g h;
    here = ap (λ (X : World). X.head p) call-is ∙ put-here p (running (leaves S c k r s) (back S c k r s)) W.head;
    there = λ q n. ap (λ (X : World). X.head q) call-is ∙ put-there p (running (leaves S c k r s) (back S c k r s)) W.head q n;
    sent = λ x d. subst (λ (L : List Sent). Memᴰ x L) (sym call-sent) (Memᴰ.append_right (signed p (writes c r s)) d);
  }

-- ---- tables

abbrev pub head_of : Seat → Head
head_of h = running h.words h.session

pub record Follows (S : Setting) (t : List Seat) (formed : List ℕ) (W : World) : Type 0 where
  pub history : History S W
  pub long : length t ≡ 16
  pub heads : (p : ℕ) → p < 16 → W.head p ≡ head_of (seat_at t p)
  pub kept : (p : ℕ) → p < 16 → KeptIn p (seat_at t p).sent W.sent
  pub listed : formed ≡ in_order W.formed

pub seat-here : (t : List Seat) (p : ℕ) (h : Seat) → p < length t → seat_at (set t p h) p ≡ h
seat-here t p h l = get_or-set_same t p h _ l

pub seat-there : (t : List Seat) (p : ℕ) (h : Seat) (q : ℕ) → (q ≡ p → ⊥) → seat_at (set t p h) q ≡ seat_at t q
seat-there t p h q n = get_or-set_other t p q h _ n

-- the table follows a move of head p
module _ (S : Setting) (t : List Seat) (L : List ℕ) (W : World) (f : Follows S t L W) (p : ℕ) (small : p < 16) (h : Seat) (W' : World) (m : Moves S p (head_of h) W W') where
  head-follows : (q : ℕ) → q < 16 → Dec (q ≡ p) → W'.head q ≡ head_of (seat_at (set t p h) q)
  head-follows q l (yes e) =
      ap W'.head e ∙ m.here ∙ ap head_of (sym (seat-here t p h (omega (arith, f.long, small)))) ∙ ap (λ (i : ℕ). head_of (seat_at (set t p h) i)) (sym e)
  head-follows q l (no n) = m.there q n ∙ f.heads q l ∙ ap head_of (sym (seat-there t p h q n))

  kept-follows : KeptIn p h.sent W'.sent → (q : ℕ) → q < 16 → Dec (q ≡ p) → KeptIn q (seat_at (set t p h) q).sent W'.sent
  kept-follows k q l (yes e) =
      subst (λ (i : ℕ). KeptIn i (seat_at (set t p h) i).sent W'.sent) (sym e)
      (subst (λ (x : Seat). KeptIn p x.sent W'.sent) (sym (seat-here t p h (omega (arith, f.long, small)))) k)
  kept-follows k q l (no n) =
      subst (λ (x : Seat). KeptIn q x.sent W'.sent) (sym (seat-there t p h q n)) (λ which e. m.sent _ (f.kept q l which e))

  pub follows-moved : (L' : List ℕ) → KeptIn p h.sent W'.sent → L' ≡ in_order W'.formed → Follows S (set t p h) L' W'
  follows-moved L' k e = record {
    history = m.history;
    long = length-set t p h ∙ f.long;
    heads = λ q l. head-follows q l (ℕ_discrete q p);
    kept = λ q l. kept-follows k q l (ℕ_discrete q p);
    listed = e;
  }
