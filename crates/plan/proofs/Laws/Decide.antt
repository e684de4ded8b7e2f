-- Every step of decide is one change that recovery completes, or nothing, and leaves what decide is given: a whole record, of the same group and own head.
use mathlib.Core.Path.{◌≡◌, refl, sym, ap, subst, ◌∙◌}
use mathlib.Core.Bool.{Bool, true, false, not, cond}
use mathlib.Core.List.{List, []}
use Prim.Native.Nat.{ℕ, ◌+◌, ◌<◌}
use native.Mathlib.Omega.{arith}
use lib.Dec.{eqb}
use lib.ListN.{length, get_or}
use borrow.Author.Tests.{ne_eqb, lt-ltb, le-leb}
use Rattle.loops.proofs.Laws.Truth.{and_both, or_right}
use Rattle.group.specs.Heads.{has}
use Rattle.group.specs.Words.{heads, num, sound, session_word}
use Rattle.group.specs.Quorum.{enough}
use Rattle.group.proofs.Laws.Words.{num-session, heads-session, has-heads}
use Rattle.store.specs.Desk.{Store, apply, where_changed}
use Rattle.store.specs.Program.{Step, after, up_to}
use Rattle.record.specs.Layout.{settings, own, entered, store_marks}
use Rattle.record.specs.Whole.{whole}
use Rattle.record.proofs.Laws.Layout.{Reads, same-own, own-small}
use Rattle.record.proofs.Laws.Whole.{whole_parts}
use Rattle.recovery.specs.Changes.{mark_change, clear_change, adopt_change, attempt_change}
use Rattle.recovery.specs.Statements.{Sounds}
use Rattle.recovery.proofs.Laws.Small.{mark-sound, clear-sound, attempt-sound}
use Rattle.recovery.proofs.Laws.Adopt.{adopted, adopt-sound}
use Rattle.recovery.proofs.Laws.Sounds.{OneOrNone, cond-one, differs-one, one-after, Safe, AllSafe, AllSafe.none as none, AllSafe.more as more, safe-append, safe-up_to, safe-sounds, call-cut, safe-after}
use Rattle.state.specs.declared.Held.{Held}
use Rattle.plan.specs.Members.{held_of, other}
use Rattle.plan.specs.Marks.{marked, mark_step}
use Rattle.plan.specs.Adoption.{best_offer, adopts, adopt_step}
use Rattle.plan.specs.Clearing.{to_clear, clear_step}
use Rattle.plan.specs.Attempt.{highest_number, lowest_free, attempts, attempt_session, attempt_step}
use Rattle.plan.specs.Decide.{learning, after_c, decide_program, decide_changes}
use Rattle.plan.specs.Statements.{Given, DecideCut, DecideWhole}
use Rattle.plan.proofs.Laws.Marked.{marked-ok}
use Rattle.plan.proofs.Laws.Adoption.{adopts-above, adopts-some, adopts-from, Formable, last-formed, formable-word, has-zero}
use Rattle.plan.proofs.Laws.Attempt.{attempts-quorate, attempts-number, attempts-place, quorate-enough, highest-number-own, lowest-free}
use Rattle.plan.proofs.Laws.After.{marked-reads, cleared-reads, attempted-reads}

-- ---- what stays

-- word 0 and the view stay
pub record Same (r x : List ℕ) : Type 0 where
  pub group : settings x ≡ settings r
  pub view : entered x ≡ entered r

cond_same : (r : List ℕ) (b : Bool) (c : List Store) → (b ≡ true → Same r (apply c r)) → Same r (apply (cond b c []) r)
unfolding apply
cond_same r true c f = f refl
cond_same r false c f = record { group = refl; view = refl }

reads_same : {r x : List ℕ} {n p : ℕ} {formed place marks : ℕ → ℕ} → Reads x (settings r) (entered r) n p formed place marks → Same r x
reads_same s = record { group = s.settings-is; view = s.entered-is }

-- ---- what decide is given stays

given-kept : (m : ℕ) (held : Held) (r x : List ℕ) → Given m held r → whole x ≡ true → settings x ≡ settings r → Given m held x
unfolding other
given-kept m held r x g e s =
    let o : own x ≡ own r = same-own x r s in
    record {
      sound = e;
      members = g.members;
      among = rw o g.among;
      states = λ q h t. g.states q h (rw o at t);
      numbers = λ q h t. g.numbers q h (rw o at t);
    }

-- the record r₀ that decide began with, some steps on
pub record Stays (m : ℕ) (held : Held) (r₀ r : List ℕ) : Type 0 where
  pub given : Given m held r
  pub same : Same r₀ r

module _ (m : ℕ) (held : Held) where
  -- ---- a. each mark word is one change

  mark-step : (i : ℕ) → i < 16 → (r : List ℕ) → Given m held r → OneOrNone r (mark_step m held i r)
  unfolding mark_step where_changed mark_change
  mark-step i h r g =
      let s = store_marks i (marked m held r i) in
      differs-one r (eqb (get_or r s.at 0) s.word) s
      (mark-sound r i (marked m held r i) g.sound h (marked-ok m held r (whole_parts r g.sound) i h))

  -- ---- b. adoption is one change: what is adopted is a session with own head that a record may hold

  pub best-formable : (r : List ℕ) → Given m held r → (e : adopts m held r ≡ true)
      → Formable (own r) (adopts-from m held r e).from (held_of held (adopts-from m held r e).from).number (best_offer m held r)
  best-formable r g e =
      let o = adopts-from m held r e in
      subst (Formable (own r) o.from (held_of held o.from).number) (sym o.is)
      (last-formed held r o.from (g.states o.from o.head o.is-other) (λ z. adopts-some m held r e (o.is ∙ z)))

  adopt-step : (r : List ℕ) → Given m held r → OneOrNone r (adopt_step m held r)
  unfolding adopt_step
  adopt-step r g =
      cond-one r (adopts m held r) (adopt_change r (best_offer m held r))
      (λ e.
      let o = adopts-from m held r e in
      let f = best-formable r g e in
      adopt-sound r (best_offer m held r) g.sound (formable-word _ _ _ _ f (g.numbers o.from o.head o.is-other)) f.with-own (adopts-above m held r e))

  adopt-same : (r : List ℕ) → length r ≡ 52 → Same r (apply (adopt_step m held r) r)
  unfolding adopt_step
  adopt-same r l = cond_same r (adopts m held r) (adopt_change r (best_offer m held r)) (λ e. reads_same (adopted r (best_offer m held r) l))

  -- ---- c. each clearing is one change

  clear_step-one : (i : ℕ) → i < 16 → (r : List ℕ) → Given m held r → OneOrNone r (clear_step m held i r)
  unfolding clear_step
  clear_step-one i h r g = cond-one r (to_clear m held r i) (clear_change i) (λ e. clear-sound r i g.sound h)

  clear-same : (i : ℕ) → i < 16 → (r : List ℕ) → length r ≡ 52 → Same r (apply (clear_step m held i r) r)
  unfolding clear_step
  clear-same i h r l = cond_same r (to_clear m held r i) (clear_change i) (λ e. reads_same (cleared-reads r l i h))

  -- ---- d. the attempt is one change: (M, highest + 1) may stand in a place

  pub attempt-number : (r : List ℕ) → m < 65536 → num (attempt_session m held r) ≡ highest_number m held r + 1
  unfolding attempt_session
  attempt-number r h = num-session (highest_number m held r + 1) m h

  pub attempt-heads : (r : List ℕ) → m < 65536 → heads (attempt_session m held r) ≡ m
  unfolding attempt_session
  attempt-heads r h = heads-session (highest_number m held r + 1) m h

  pub attempt-has : (r : List ℕ) → m < 65536 → (q : ℕ) → q < 16 → has (attempt_session m held r) q ≡ has m q
  attempt-has r h q l = sym (has-heads (attempt_session m held r) q l) ∙ ap (λ (s : ℕ). has s q) (attempt-heads r h)

  attempt-word : (r : List ℕ) → Given m held r → highest_number m held r < 4294967295 → session_word (attempt_session m held r) ≡ true
  unfolding session_word sound
  attempt-word r g h =
      let w = attempt_session m held r in
      and_both _ _
      (or_right (eqb w 0) _ (ap not (ne_eqb (heads w) 0 (λ z. has-zero m (own r) g.among (sym (attempt-heads r g.members) ∙ z)))))
      (lt-ltb w 281474976710656 (omega (arith, attempt-number r g.members)))

  attempt-step : (r : List ℕ) → Given m held r → OneOrNone r (attempt_step m held r)
  unfolding attempt_step enough
  attempt-step r g =
      cond-one r (attempts m held r) (attempt_change (lowest_free r) (attempt_session m held r))
      (λ e.
      attempt-sound r (lowest_free r) (attempt_session m held r) g.sound (attempts-place m held r e) (lowest-free r (attempts-place m held r e))
      (attempt-word r g (attempts-number m held r e)) (attempt-has r g.members (own r) (own-small r) ∙ g.among)
      (rw (attempt-heads r g.members) (le-leb _ _ (quorate-enough m held r (attempts-quorate m held r e))))
      (omega (arith, attempt-number r g.members, highest-number-own m held r g.among)))

  attempt-same : (r : List ℕ) → length r ≡ 52 → Same r (apply (attempt_step m held r) r)
  unfolding attempt_step
  attempt-same r l =
      cond_same r (attempts m held r) (attempt_change (lowest_free r) (attempt_session m held r))
      (λ e. reads_same (attempted-reads r l (lowest_free r) (attempts-place m held r e) (attempt_session m held r)))

  -- ---- each step is one change or nothing, and keeps what decide is given

  module _ (r₀ : List ℕ) where
    safe : (f : Step) → ((r : List ℕ) → Given m held r → OneOrNone r (f r)) → ((r : List ℕ) → length r ≡ 52 → Same r (apply (f r) r)) → Safe (Stays m held r₀) f
    safe f s k = record {
      sound = λ r p. s r p.given;
      kept = λ r p.
          let x = apply (f r) r in
          let e = k r (whole_parts r p.given.sound).long in
          record {
            given = given-kept m held r x p.given (one-after r (f r) p.given.sound (s r p.given)) e.group;
            same = record { group = e.group ∙ p.same.group; view = e.view ∙ p.same.view };
          };
    }

    pub mark-safe : (i : ℕ) → i < 16 → Safe (Stays m held r₀) (mark_step m held i)
    mark-safe i h = safe (mark_step m held i) (mark-step i h) (λ r l. reads_same (marked-reads r l i h m held))

    pub adopt-safe : Safe (Stays m held r₀) (adopt_step m held)
    adopt-safe = safe (adopt_step m held) adopt-step adopt-same

    pub clear-safe : (i : ℕ) → i < 16 → Safe (Stays m held r₀) (clear_step m held i)
    clear-safe i h = safe (clear_step m held i) (clear_step-one i h) (clear-same i h)

    pub attempt-safe : Safe (Stays m held r₀) (attempt_step m held)
    attempt-safe = safe (attempt_step m held) attempt-step attempt-same

    pub learning-safe : AllSafe (Stays m held r₀) (learning m held)
    unfolding learning
    learning-safe =
        safe-append (up_to 16 (mark_step m held)) _ (safe-up_to (mark_step m held) 16 mark-safe)
        (more adopt-safe (safe-up_to (clear_step m held) 16 clear-safe))

    pub decide-safe : AllSafe (Stays m held r₀) (decide_program m held)
    unfolding decide_program
    decide-safe = safe-append (learning m held) _ learning-safe (more attempt-safe none)

  -- ---- the whole of it, from the record r

  module _ (r : List ℕ) (g : Given m held r) where
    starts : Stays m held r r
    starts = record { given = g; same = record { group = refl; view = refl } }

    -- after a to c
    pub learned : Stays m held r (after_c m held r)
    unfolding after_c
    learned = safe-after (learning m held) r (learning-safe r) starts

    -- after all of it
    pub decided : Stays m held r (after (decide_program m held) r)
    decided = safe-after (decide_program m held) r (decide-safe r) starts

    -- THE CHANGES OF DECIDE, ONE AFTER THE OTHER
    pub decide-sounds : Sounds (decide_changes m held r) r
    unfolding decide_changes
    decide-sounds = safe-sounds (λ x p. p.given.sound) (decide_program m held) r (decide-safe r) starts

-- DECIDE CUT ANYWHERE: recovery gives the record after the changes begun
pub decide-cut : DecideCut
unfolding decide_changes
decide-cut m held r k g = call-cut (λ x p. p.given.sound) (decide_program m held) r k (decide-safe m held r) (starts m held r g)

pub decide-whole : DecideWhole
decide-whole m held r g = (decided m held r g).given.sound
