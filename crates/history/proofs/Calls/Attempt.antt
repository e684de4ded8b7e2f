-- Decide's d by words: the attempt weighs what the chain's heads weigh, own values as in the record and the others' as they were said.
use mathlib.Core.Bool.{Bool, true, false, cond}
use mathlib.Core.Logic.{◌⊎◌, inl, inr, ⊎_elim, ◌≢◌}
use mathlib.Core.Path.{◌≡◌, refl, sym, ap, subst, ◌∙◌}
use mathlib.Core.List.{List}
use Prim.Native.Nat.{ℕ, suc, ◌+◌, ◌≤◌, ◌<◌}
use native.Mathlib.Omega.{arith}
use lib.Dec.{eqb, ltb}
use lib.ListN.{get_or}
use borrow.Author.Tests.{eqb-true, eqb-false, eq-eqb, ne_eqb, ltb-true}
use Rattle.loops.proofs.Laws.Truth.{not-both, passes-or-fails}
use Rattle.group.specs.Heads.{has}
use Rattle.group.specs.Words.{heads, num, rank}
use Rattle.group.proofs.Laws.Heads.{has-none}
use Rattle.group.proofs.Laws.Words.{rank-none}
use Rattle.store.specs.Desk.{apply}
use Rattle.record.specs.Layout.{settings, entered, number, primary, formed_for, place_at, marks_at}
use Rattle.record.proofs.Laws.Layout.{Reads, changed, changed-here, changed-there}
use Rattle.record.proofs.Laws.Whole.{whole_parts}
use Rattle.recovery.specs.Changes.{attempt_change}
use Rattle.recovery.proofs.Laws.Still.{whole-marks}
use Rattle.state.specs.declared.Held.{Held}
use Rattle.plan.specs.Members.{held_of}
use Rattle.plan.specs.Attempt.{number_of, primary_of, highest_number, highest_primary, passes_for, lowest_free, attempts, attempt_session}
use Rattle.plan.specs.Statements.{Given}
use Rattle.plan.proofs.Laws.Adoption.{has-zero}
use Rattle.plan.proofs.Laws.After.{attempted-reads}
use Rattle.plan.proofs.Laws.Attempt.{number-own, number-other, primary-own, primary-other, highest-number-each, highest-number-from, highest-primary-each, highest-primary-from, quorate-top, quorate-some, quorate-own, quorate-other, attempts-quorate, attempts-place, lowest-free}
use Rattle.plan.proofs.Laws.Decide.{attempt-number, attempt-heads, attempt-has}
use Rattle.chain.specs.Model.{Group}
use Rattle.chain.specs.Words.{Said, guard, Self, Member, Attempts}
use Rattle.chain.proofs.Laws.Words.{guard-same}
use Rattle.history.specs.Setting.{Setting}
use Rattle.history.proofs.Abstraction.{rec_of}
use Rattle.history.proofs.Invariant.{Reading}
use Rattle.history.proofs.Calls.Learn.{said_in, Within, has_in, in-has}

-- own values, and what every head is weighed by
abbrev own_said : List ℕ → Said
own_said r = record { num = number r; prim = primary r; formed = guard (formed_for r); place = place_at r }

abbrev pub weighs : ℕ → Held → List ℕ → ℕ → Said
weighs p held r x = cond (eqb x p) (own_said r) (said_in held x)

module _ (p : ℕ) (held : Held) (r : List ℕ) where
  pub weighs-other : (x : ℕ) → x ≢ p → weighs p held r x ≡ said_in held x
  weighs-other x n = ap (λ (b : Bool). cond b (own_said r) (said_in held x)) (ne_eqb x p n)

  weighs-own : (x : ℕ) → x ≡ p → weighs p held r x ≡ own_said r
  weighs-own x e = ap (λ (b : Bool). cond b (own_said r) (said_in held x)) (eq-eqb x p e)

  pub weighs-self : Self (rec_of r) (weighs p held r p)
  weighs-self = subst (λ (t : Said). Self (rec_of r) t) (sym (weighs-own p refl)) (record { num = refl; prim = refl; formed = λ x. refl; lists = λ w n l. l })

module _ (S : Setting) (G : Group) (R : Reading S G) (p m : ℕ) (held : Held) (r : List ℕ) (w : Within S G p m r) (g : Given m held r) (e : attempts m held r ≡ true) where
  abbrev said : ℕ → Said
  said = weighs p held r

  own-or-not : (x : ℕ) → (x ≡ p) ⊎ (x ≢ p)
  own-or-not x = ⊎_elim (λ t. inl (eqb-true x p t)) (λ t. inr (eqb-false x p t)) (passes-or-fails (eqb x p))

  said-number : (x : ℕ) → has m x ≡ true → (said x).num ≡ number_of m held r x
  said-number x h =
      ⊎_elim
      (λ z. ap (λ (t : Said). t.num) (weighs-own p held r x z) ∙ sym (number-own m held r g.among) ∙ ap (number_of m held r) (w.mine ∙ sym z))
      (λ n. ap (λ (t : Said). t.num) (weighs-other p held r x n) ∙ sym (number-other m held r x h (λ z. n (z ∙ w.mine))))
      (own-or-not x)

  said-primary : (x : ℕ) → has m x ≡ true → (said x).prim ≡ primary_of m held r x
  said-primary x h =
      ⊎_elim
      (λ z. ap (λ (t : Said). t.prim) (weighs-own p held r x z) ∙ sym (primary-own m held r g.among) ∙ ap (primary_of m held r) (w.mine ∙ sym z))
      (λ n. ap (λ (t : Said). t.prim) (weighs-other p held r x n) ∙ sym (primary-other m held r x h (λ z. n (z ∙ w.mine))))
      (own-or-not x)

  -- the quorum test of the record is the group's
  passed : (v : ℕ) → passes_for m r v ≡ true → G.passes (heads v) (G.members (entered r))
  unfolding passes_for
  passed v t = subst (λ (a : ℕ). G.passes (heads v) a) (sym w.here) (R.pass (heads v) m (rw (w.core_is, w.least-is) at t))

  weighed : (x i : ℕ) → Member G (rec_of r) x → i < 16 → rank (highest_primary m held r) < rank ((said x).place i) → G.passes (heads ((said x).place i)) (G.members (entered r))
  weighed x i j l = ⊎_elim mine other (own-or-not x)
    where
      mine : x ≡ p → rank (highest_primary m held r) < rank ((said x).place i) → G.passes (heads ((said x).place i)) (G.members (entered r))
      mine z =
          subst (λ (v : ℕ). rank (highest_primary m held r) < rank v → G.passes (heads v) (G.members (entered r))) (sym (ap (λ (t : Said). t.place i) (weighs-own p held r x z)))
          (λ up. passed (place_at r i) (quorate-own m held r (attempts-quorate m held r e) g.among i l up))

      other : x ≢ p → rank (highest_primary m held r) < rank ((said x).place i) → G.passes (heads ((said x).place i)) (G.members (entered r))
      other n =
          subst (λ (v : ℕ). rank (highest_primary m held r) < rank v → G.passes (heads v) (G.members (entered r))) (sym (ap (λ (t : Said). t.place i) (weighs-other p held r x n)))
          (by (ltb i (held_of held x).count) refl)
        where
          by : (b : Bool) → ltb i (held_of held x).count ≡ b → rank (highest_primary m held r) < rank (cond b (get_or (held_of held x).places i 0) 0)
              → G.passes (heads (cond b (get_or (held_of held x).places i 0) 0)) (G.members (entered r))
          by true t up =
              let (h, k) = in-has S G R p m held r w x j in
              passed (get_or (held_of held x).places i 0)
              (quorate-other m held r (attempts-quorate m held r e) x h k (λ z. n (z ∙ w.mine)) i l (ltb-true i (held_of held x).count t) up)
          by false t up = absurd (omega (arith, rank-none))

  abbrev free : ℕ
  free = lowest_free r

  abbrev new : ℕ
  new = attempt_session m held r

  abbrev y : List ℕ
  y = apply (attempt_change free new) r

  fits : free < 16
  fits = attempts-place m held r e

  pub attempt-reads : Reads y (settings r) (entered r) (num new) (primary r) (formed_for r) (changed free new (place_at r)) (marks_at r)
  attempt-reads = attempted-reads r w.long free fits new

  put_is : place_at y free ≡ new
  put_is = attempt-reads.place_is free fits ∙ changed-here free new (place_at r)

  bare : (x : ℕ) → G.In x (marks_at y free) → ⊥
  bare x j =
      let z : marks_at y free ≡ 0 = attempt-reads.marks-is free fits ∙ whole-marks r (whole_parts r g.sound) free fits (lowest-free r fits) in
      not-both (has 0 x) (R.out x 0 (subst (λ (a : ℕ). G.In x a) z j)).1 (has-none x)

  tight : (x : ℕ) × Member G (rec_of r) x × (highest_number m held r + 1 ≡ suc (said x).num)
  tight = let (q, l, h, t) = highest-number-from m held r g.among in (q, has_in S G R p m held r w q h, omega (arith, said-number q h, t))

  best-from : (x : ℕ) × Member G (rec_of r) x × ((said x).prim ≡ highest_primary m held r)
  best-from =
      ⊎_elim (λ z. absurd (quorate-some m held r (attempts-quorate m held r e) z))
      (λ t. (t.0, has_in S G R p m held r w t.0 t.2, said-primary t.0 t.2 ∙ sym t.3))
      (highest-primary-from m held r)

  -- STEP D
  pub attempts-are : Attempts G p said (rec_of r) (rec_of y)
  attempts-are = record {
    number = highest_number m held r + 1;
    high = λ x j. let (l, h) = in-has S G R p m held r w x j in omega (arith, said-number x h, highest-number-each m held r x l);
    tight = tight;
    best = highest_primary m held r;
    best-some = quorate-some m held r (attempts-quorate m held r e);
    best-from = best-from;
    best-top = λ x j.
        let (l, h) = in-has S G R p m held r w x j in
        subst (λ (v : ℕ). rank v ≤ rank (highest_primary m held r)) (sym (said-primary x h)) (highest-primary-each m held r x l);
    pass = passed (highest_primary m held r) (quorate-top m held r (attempts-quorate m held r e));
    weigh = weighed;
    at = free;
    at_place = fits;
    was = lowest-free r fits;
    put = record {
      some = λ z. has-zero new p (attempt-has m held r w.small p w.seat ∙ subst (λ (q : ℕ). has m q ≡ true) w.mine g.among) (sym put_is ∙ z);
      set = ap heads put_is ∙ attempt-heads m held r w.small ∙ sym w.here;
      number = ap num put_is ∙ attempt-number m held r w.small;
    };
    bare = bare;
    rest = λ i l n. (attempt-reads.place_is i l ∙ changed-there free new (place_at r) i n, attempt-reads.marks-is i l);
    view = attempt-reads.entered-is;
    num = attempt-reads.number_is ∙ attempt-number m held r w.small;
    prim = attempt-reads.primary-is;
    formed = guard-same (formed_for y) (formed_for r) attempt-reads.formed-is;
  }
