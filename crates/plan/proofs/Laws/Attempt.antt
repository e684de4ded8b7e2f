-- Laws of the attempt (d): the highest number and primary are at least each member's and are some member's; what is quorate, attempted and free.
use mathlib.Core.Path.{◌≡◌, refl, sym, ap, subst, ◌∙◌}
use mathlib.Core.Bool.{Bool, true, false, not, cond, ◌&&◌}
use mathlib.Core.Logic.{◌⊎◌, inl, inr, ⊎_elim}
use mathlib.Core.List.{List}
use Prim.Native.Nat.{ℕ, zero, suc, ◌≤◌, ◌<◌, max}
use native.Mathlib.Nat.{not-suc-le-zero, lt_irrefl}
use native.Mathlib.Omega.{arith}
use lib.Dec.{eqb, leb, ltb}
use lib.ListN.{get_or}
use borrow.Author.Tests.{eqb-true, eq-eqb, ne_eqb, leb-true, leb-false, ltb-true, lt-ltb}
use Rattle.loops.specs.Below.{fold_below}
use Rattle.loops.proofs.Laws.Truth.{and_left, and_right, and_both, or_cases, passes-or-fails}
use Rattle.loops.proofs.Laws.Order.{below_suc, lt-or-ge}
use Rattle.loops.proofs.Laws.Tests.{all-at}
use Rattle.loops.proofs.Laws.First.{first_passes}
use Rattle.group.specs.Answers.{no-quorum, numbers-run-out, no_place, attempted}
use Rattle.group.specs.Heads.{has, size, highest, shared}
use Rattle.group.specs.Words.{heads, rank}
use Rattle.group.proofs.Laws.Heads.{size_none, highest-member}
use Rattle.group.proofs.Laws.Words.{highest-each, highest-from}
use Rattle.group.proofs.Laws.Quorum.{pass-none, pass-enough}
use Rattle.record.specs.Layout.{core, least, own, number, primary, place_at}
use Rattle.record.proofs.Laws.Layout.{own-small}
use Rattle.state.specs.declared.Held.{Held}
use Rattle.plan.specs.Members.{held_of}
use Rattle.plan.specs.Attempt.{number_of, primary_of, highest_number, highest_primary, passes_for, weighed, own_weighed, state_weighed, listed_weighed, quorate, lowest_free, decision, attempts}
use Rattle.plan.proofs.Laws.Weighing.{done-decision}

-- ---- the highest of a table of numbers

top-each : (n : ℕ) (f : ℕ → ℕ) (i : ℕ) → i < n → f i ≤ fold_below n (λ q x. max x (f q)) 0
unfolding fold_below
top-each zero f i h = absurd (not-suc-le-zero h)
top-each (suc n) f i h = ⊎_elim (λ e. rw e (omega arith)) (λ l. omega (arith, top-each n f i l)) (below_suc h)

top_from : (n : ℕ) (f : ℕ → ℕ) → (fold_below n (λ q x. max x (f q)) 0 ≡ 0) ⊎ ((i : ℕ) × (i < n) × (fold_below n (λ q x. max x (f q)) 0 ≡ f i))
unfolding fold_below
top_from zero f = inl refl
top_from (suc n) f =
    ⊎_elim
    (λ l. ⊎_elim (λ z. absurd (lt_irrefl 0 (omega arith))) (λ x. inr (x.0, omega (arith, x.1), omega (arith, x.2))) (top_from n f))
    (λ g. inr (n, omega arith, omega arith))
    (lt-or-ge (f n) (fold_below n (λ q x. max x (f q)) 0))

-- ---- members' values

module _ (m : ℕ) (held : Held) (r : List ℕ) where
  pub number-own : has m (own r) ≡ true → number_of m held r (own r) ≡ number r
  unfolding number_of
  number-own e = rw (e, eq-eqb (own r) (own r) refl)

  pub number-other : (q : ℕ) → has m q ≡ true → (q ≡ own r → ⊥) → number_of m held r q ≡ (held_of held q).number
  unfolding number_of
  number-other q e n = rw (e, ne_eqb q (own r) n)

  number-none : (q : ℕ) → has m q ≡ false → number_of m held r q ≡ 0
  unfolding number_of
  number-none q e = rw e

  pub primary-own : has m (own r) ≡ true → primary_of m held r (own r) ≡ primary r
  unfolding primary_of
  primary-own e = rw (e, eq-eqb (own r) (own r) refl)

  pub primary-other : (q : ℕ) → has m q ≡ true → (q ≡ own r → ⊥) → primary_of m held r q ≡ (held_of held q).primary
  unfolding primary_of
  primary-other q e n = rw (e, ne_eqb q (own r) n)

  primary-none : (q : ℕ) → has m q ≡ false → primary_of m held r q ≡ 0
  unfolding primary_of
  primary-none q e = rw e

  pub highest-number-each : (q : ℕ) → q < 16 → number_of m held r q ≤ highest_number m held r
  unfolding highest_number
  highest-number-each q h = top-each 16 (number_of m held r) q h

  pub highest-number-own : has m (own r) ≡ true → number r ≤ highest_number m held r
  highest-number-own e = subst (λ (n : ℕ). n ≤ highest_number m held r) (number-own e) (highest-number-each (own r) (own-small r))

  -- it is some member's
  pub highest-number-from : has m (own r) ≡ true → (q : ℕ) × (q < 16) × (has m q ≡ true) × (highest_number m held r ≡ number_of m held r q)
  unfolding highest_number
  highest-number-from e =
      ⊎_elim mine
      (λ x. ⊎_elim (λ t. (x.0, x.1, t, x.2)) (λ f. mine (x.2 ∙ number-none x.0 f)) (passes-or-fails (has m x.0)))
      (top_from 16 (number_of m held r))
    where
      mine : fold_below 16 (λ q x. max x (number_of m held r q)) 0 ≡ 0
          → (q : ℕ) × (q < 16) × (has m q ≡ true) × (fold_below 16 (λ q x. max x (number_of m held r q)) 0 ≡ number_of m held r q)
      mine z = (own r, own-small r, e, omega (arith, top-each 16 (number_of m held r) (own r) (own-small r)))

  pub highest-primary-each : (q : ℕ) → q < 16 → rank (primary_of m held r q) ≤ rank (highest_primary m held r)
  unfolding highest_primary
  highest-primary-each q h = highest-each 16 (primary_of m held r) q h

  -- it is none, or some member's, and no lower head has one as high
  pub highest-primary-from : (highest_primary m held r ≡ 0)
      ⊎ ((q : ℕ) × (q < 16) × (has m q ≡ true) × (highest_primary m held r ≡ primary_of m held r q)
      × ((j : ℕ) → j < q → rank (primary_of m held r j) < rank (primary_of m held r q)))
  unfolding highest_primary
  highest-primary-from =
      ⊎_elim inl
      (λ x. ⊎_elim (λ t. inr (x.0, x.1, t, x.2, x.3)) (λ f. inl (x.2 ∙ primary-none x.0 f)) (passes-or-fails (has m x.0)))
      (highest-from 16 (primary_of m held r))

  -- ---- what is quorate

  pub quorate-top : quorate m held r ≡ true → passes_for m r (highest_primary m held r) ≡ true
  unfolding quorate
  quorate-top e = and_left (passes_for m r (highest_primary m held r)) _ e

  quorate-listed : quorate m held r ≡ true → (q : ℕ) → q < 16 → listed_weighed m held r (highest_primary m held r) q ≡ true
  unfolding quorate
  quorate-listed e = all-at 16 _ (and_right (passes_for m r (highest_primary m held r)) _ e)

  -- M passes for none of no heads
  pub quorate-some : quorate m held r ≡ true → highest_primary m held r ≡ 0 → ⊥
  unfolding passes_for
  quorate-some e z =
      pass-none highest highest-member (core r) (least r) (heads (highest_primary m held r)) m (ap (λ (w : ℕ). size (heads w)) z ∙ size_none) (quorate-top e)

  weighed-above : (top w : ℕ) → weighed m r top w ≡ true → rank top < rank w → passes_for m r w ≡ true
  unfolding weighed
  weighed-above top w e h =
      ⊎_elim (λ l. absurd (lt_irrefl 0 (omega (arith, leb-true (rank w) (rank top) l)))) (λ p. p) (or_cases (leb (rank w) (rank top)) _ e)

  -- every session listed above the highest primary: own head's places
  pub quorate-own : quorate m held r ≡ true → has m (own r) ≡ true → (i : ℕ) → i < 16 → rank (highest_primary m held r) < rank (place_at r i)
      → passes_for m r (place_at r i) ≡ true
  unfolding listed_weighed own_weighed
  quorate-own e t i h up =
      let top = highest_primary m held r in
      let l : own_weighed m r top ≡ true = rw (t, eq-eqb (own r) (own r) refl) at (quorate-listed e (own r) (own-small r)) in
      weighed-above top (place_at r i) (all-at 16 _ l i h) up

  -- and the others' lists
  pub quorate-other : quorate m held r ≡ true → (q : ℕ) → q < 16 → has m q ≡ true → (q ≡ own r → ⊥) → (j : ℕ) → j < 16 → j < (held_of held q).count
      → rank (highest_primary m held r) < rank (get_or (held_of held q).places j 0) → passes_for m r (get_or (held_of held q).places j 0) ≡ true
  unfolding listed_weighed state_weighed
  quorate-other e q hq t n j h c up =
      let top = highest_primary m held r in
      let st = held_of held q in
      let w = get_or st.places j 0 in
      let l : state_weighed m r top st ≡ true = rw (t, ne_eqb q (own r) n) at (quorate-listed e q hq) in
      ⊎_elim (λ b. absurd (lt_irrefl 0 (omega (arith, leb-true st.count j b)))) (λ p. weighed-above top w p up) (or_cases (leb st.count j) _ (all-at 16 _ l j h))

  pub quorate-enough : quorate m held r ≡ true → least r ≤ shared (core r) m
  unfolding passes_for
  quorate-enough e = pass-enough highest highest-member (core r) (least r) (heads (highest_primary m held r)) m (quorate-top e)

  -- ---- what is attempted

  pub attempts-quorate : attempts m held r ≡ true → quorate m held r ≡ true
  unfolding attempts
  attempts-quorate e = and_left (quorate m held r) _ (and_left (quorate m held r && ltb (highest_number m held r) 4294967295) _ e)

  pub attempts-number : attempts m held r ≡ true → highest_number m held r < 4294967295
  unfolding attempts
  attempts-number e = ltb-true _ _ (and_right (quorate m held r) _ (and_left (quorate m held r && ltb (highest_number m held r) 4294967295) _ e))

  pub attempts-place : attempts m held r ≡ true → lowest_free r < 16
  unfolding attempts
  attempts-place e = ltb-true _ _ (and_right (quorate m held r && ltb (highest_number m held r) 4294967295) _ e)

  pub make-attempts : quorate m held r ≡ true → highest_number m held r < 4294967295 → lowest_free r < 16 → attempts m held r ≡ true
  unfolding attempts
  make-attempts q n h = and_both _ _ (and_both _ _ q (lt-ltb _ _ n)) (lt-ltb _ _ h)

-- the lowest free place is free
pub lowest-free : (r : List ℕ) → lowest_free r < 16 → place_at r (lowest_free r) ≡ 0
unfolding lowest_free
lowest-free r h = eqb-true _ 0 (first_passes 16 (λ i. eqb (place_at r i) 0) h)

-- ---- the answer "attempted" is given exactly when there is an attempt

module _ (m : ℕ) (held : Held) (r : List ℕ) where
  pub attempted-attempts : decision m held r ≡ attempted → attempts m held r ≡ true
  unfolding decision
  attempted-attempts = go (quorate m held r) (leb 4294967295 (highest_number m held r)) (leb 16 (lowest_free r)) refl refl refl
    where
      go : (x a b : Bool) → quorate m held r ≡ x → leb 4294967295 (highest_number m held r) ≡ a → leb 16 (lowest_free r) ≡ b
          → cond (not x) no-quorum (cond a numbers-run-out (cond b no_place attempted)) ≡ attempted → attempts m held r ≡ true
      go true false false p n f e = make-attempts m held r p (leb-false _ _ n) (leb-false _ _ f)
      go true false true p n f e = absurd (let z : ◌≡◌ {A = ℕ} 0 1 = cc in omega arith)
      go true true b p n f e = absurd (let z : ◌≡◌ {A = ℕ} 0 1 = cc in omega arith)
      go false a b p n f e = absurd (let z : ◌≡◌ {A = ℕ} 0 1 = cc in omega arith)

  pub attempts-attempted : attempts m held r ≡ true → decision m held r ≡ attempted
  attempts-attempted e = sym (done-decision m held r (attempts-quorate m held r e) refl (attempts-number m held r e) refl (attempts-place m held r e))
