-- What it means that a state keeps the rules, fact by fact, and back: each rule's test is taken apart into its parts, and the rising of places is summed up
-- from neighbours to any two.
use mathlib.Core.Path.{◌≡◌, refl}
use mathlib.Core.Bool.{Bool, true, false, cond, ◌&&◌}
use mathlib.Core.Logic.{⊎_elim}
use Prim.Native.Nat.{ℕ, zero, suc, ◌≤◌, ◌<◌}
use native.Mathlib.Nat.{not-suc-le-zero}
use native.Mathlib.Omega.{arith}
use borrow.Author.Tests.{ltb-true, leb-true, eqb-true, lt-ltb, le-leb}
use lib.ListN.{get_or}
use lib.Dec.{ltb, leb, eqb}
use Rattle.loops.specs.Below.{all_below}
use Rattle.loops.proofs.Laws.Truth.{and_left, and_right}
use Rattle.loops.proofs.Laws.Order.{below_suc}
use Rattle.loops.proofs.Laws.Tests.{all-at, all_of}
use Rattle.group.specs.Heads.{has}
use Rattle.group.specs.Words.{num, rank, sound, primary_ok, formed_ok}
use Rattle.state.specs.declared.State.{State}
use Rattle.state.specs.Rules.{rule4, rule5, rule6, rule7, prior, place_ok, broken, keeps_rules}

-- the four tests of a state that breaks none of them
pub record Passed (st : State) (sender : ℕ) : Type 0 where
  pub four : rule4 st ≡ true
  pub five : rule5 st sender ≡ true
  pub six : rule6 st sender ≡ true
  pub seven : rule7 st ≡ true

pub unbroken : (st : State) (sender : ℕ) → broken st sender ≡ 0 → Passed st sender
unfolding broken
unbroken st s h = go (rule4 st) (rule5 st s) (rule6 st s) (rule7 st) refl refl refl refl h
  where
    go : (a b c d : Bool) → rule4 st ≡ a → rule5 st s ≡ b → rule6 st s ≡ c → rule7 st ≡ d
        → ◌≡◌ {A = ℕ} (cond a (cond b (cond c (cond d 0 7) 6) 5) 4) 0 → Passed st s
    go true true true true p q r t e = record { four = p; five = q; six = r; seven = t }
    go true true true false p q r t e = absurd (omega arith)
    go true true false d p q r t e = absurd (omega arith)
    go true false c d p q r t e = absurd (omega arith)
    go false b c d p q r t e = absurd (omega arith)

-- a session of the state's last formed, and of its places
abbrev pub formed : State → ℕ → ℕ
formed st q = get_or st.formed q 0

abbrev pub place : State → ℕ → ℕ
place st i = get_or st.places i 0

pub record Kept (st : State) (sender : ℕ) : Type 0 where
  pub count : st.count ≤ 16
  pub primary-sound : sound st.primary ≡ true
  pub primary-ok : primary_ok sender st.primary ≡ true
  pub primary-number : num st.primary ≤ st.number
  pub formed-sound : (q : ℕ) → q < 16 → sound (formed st q) ≡ true
  pub formed-ok : (q : ℕ) → q < 16 → formed_ok sender st.primary q (formed st q) ≡ true
  pub formed-number : (q : ℕ) → q < 16 → num (formed st q) ≤ st.number
  pub place-sound : (i : ℕ) → i < st.count → sound (place st i) ≡ true
  pub place-sender : (i : ℕ) → i < st.count → has (place st i) sender ≡ true
  pub place-above : (i : ℕ) → i < st.count → rank st.primary < rank (place st i)
  pub place-some : (i : ℕ) → i < st.count → 0 < num (place st i)
  pub place-rising : (i j : ℕ) → i < j → j < st.count → num (place st i) < num (place st j)
  pub place-number : (i : ℕ) → i < st.count → num (place st i) ≤ st.number

module _ (st : State) (sender : ℕ) where
  -- ---- from the tests to the facts

  pub place_at : rule6 st sender ≡ true → (i : ℕ) → i < st.count
      → (num (prior st.places i) < num (place st i)) × (rank st.primary < rank (place st i)) × (has (place st i) sender ≡ true)
  unfolding rule6 place_ok
  place_at e i h =
      let w = place st i in
      let b = prior st.places i in
      let t = all-at st.count _ e i h in
      let u = and_left (ltb (num b) (num w) && ltb (rank st.primary) (rank w)) (has w sender) t in (
        ltb-true _ _ (and_left (ltb (num b) (num w)) (ltb (rank st.primary) (rank w)) u),
        ltb-true _ _ (and_right (ltb (num b) (num w)) (ltb (rank st.primary) (rank w)) u),
        and_right (ltb (num b) (num w) && ltb (rank st.primary) (rank w)) (has w sender) t,
      )

  some : rule6 st sender ≡ true → (i : ℕ) → i < st.count → 0 < num (place st i)
  some e i h = omega (arith, (place_at e i h).0)

  pub rising : rule6 st sender ≡ true → (i j : ℕ) → i < j → j < st.count → num (place st i) < num (place st j)
  unfolding prior
  rising e i zero h k = absurd (not-suc-le-zero h)
  rising e i (suc j) h k =
      let next = (place_at e (suc j) k).0 in
      ⊎_elim (λ s. rw s next) (λ l. omega (arith, rising e i j l (omega arith))) (below_suc h)

  pub kept : keeps_rules st sender ≡ true → Kept st sender
  unfolding keeps_rules rule4 rule5 rule7
  kept e =
      let p = unbroken st sender (eqb-true _ _ (and_right (leb st.count 16) (eqb (broken st sender) 0) e)) in
      let sp = sound st.primary in
      let sf = all_below 16 (λ q. sound (formed st q)) in
      let ss = all_below st.count (λ i. sound (place st i)) in
      let po = primary_ok sender st.primary in
      let fo = all_below 16 (λ q. formed_ok sender st.primary q (formed st q)) in
      let np = leb (num st.primary) st.number in
      let nf = all_below 16 (λ q. leb (num (formed st q)) st.number) in
      let ns = all_below st.count (λ i. leb (num (place st i)) st.number) in
      let a = and_left (sp && sf) ss p.four in
      let b = and_left (np && nf) ns p.seven in
      record {
        count = leb-true _ _ (and_left (leb st.count 16) (eqb (broken st sender) 0) e);
        primary-sound = and_left sp sf a;
        primary-ok = and_left po fo p.five;
        primary-number = leb-true _ _ (and_left np nf b);
        formed-sound = all-at 16 _ (and_right sp sf a);
        formed-ok = all-at 16 _ (and_right po fo p.five);
        formed-number = λ q h. leb-true _ _ (all-at 16 _ (and_right np nf b) q h);
        place-sound = all-at st.count _ (and_right (sp && sf) ss p.four);
        place-sender = λ i h. (place_at p.six i h).2;
        place-above = λ i h. (place_at p.six i h).1;
        place-some = some p.six;
        place-rising = rising p.six;
        place-number = λ i h. leb-true _ _ (all-at st.count _ (and_right (np && nf) ns p.seven) i h);
      }

  -- ---- and back

  after-prior : Kept st sender → (i : ℕ) → i < st.count → num (prior st.places i) < num (place st i)
  unfolding prior
  after-prior k zero h = k.place-some zero h
  after-prior k (suc i) h = k.place-rising i (suc i) (omega arith) h

  place_ok-kept : Kept st sender → (i : ℕ) → i < st.count → place_ok sender st.primary (prior st.places i) (place st i) ≡ true
  unfolding place_ok
  place_ok-kept k i h = simp (lt-ltb _ _ (after-prior k i h), lt-ltb _ _ (k.place-above i h), k.place-sender i h)

  pub keeps : Kept st sender → keeps_rules st sender ≡ true
  unfolding keeps_rules broken rule4 rule5 rule6 rule7
  keeps k =
      simp (
        le-leb _ _ k.count,
        k.primary-sound,
        all_of 16 _ k.formed-sound,
        all_of st.count _ k.place-sound,
        k.primary-ok,
        all_of 16 _ k.formed-ok,
        all_of st.count _ (place_ok-kept k),
        le-leb _ _ k.primary-number,
        all_of 16 (λ q. leb (num (formed st q)) st.number) (λ q h. le-leb _ _ (k.formed-number q h)),
        all_of st.count (λ i. leb (num (place st i)) st.number) (λ i h. le-leb _ _ (k.place-number i h)),
      )
