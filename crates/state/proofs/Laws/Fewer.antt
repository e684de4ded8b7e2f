-- Rules 5 and 6, and that neither last primary's number nor the last place's is above the session number, are all of rules 4 to 7: a session with a head is
-- sound, a last formed's number is at most last primary's, and places rise.
use mathlib.Core.Path.{◌≡◌}
use mathlib.Core.Bool.{true, ◌&&◌}
use mathlib.Core.List.{List}
use mathlib.Core.Logic.{⊎_elim}
use Prim.Native.Nat.{ℕ, zero, suc, ◌-◌, ◌≤◌, ◌<◌}
use native.Mathlib.Nat.{not-suc-le-zero, lt_irrefl}
use native.Mathlib.Omega.{arith}
use borrow.Author.Tests.{leb-true, le-leb, eqb-true}
use lib.ListN.{length, take, get_or}
use lib.Seq.{length-take-le, get_or-take}
use lib.Dec.{leb, eqb}
use Rattle.loops.specs.Below.{all_below}
use Rattle.loops.proofs.Laws.Truth.{and_left, and_right, and_both, test-ext}
use Rattle.loops.proofs.Laws.Order.{below_suc}
use Rattle.loops.proofs.Laws.Tests.{all-at, all_of}
use Rattle.group.specs.Words.{num, primary_ok, formed_ok}
use Rattle.group.proofs.Laws.Formed.{Formed, formed-cases, has-sound, primary-sound, formed-sound, formed-number}
use Rattle.state.specs.declared.State.{State}
use Rattle.state.specs.Rules.{rule5, rule6, prior, broken, keeps_rules}
use Rattle.state.proofs.Laws.Kept.{Kept, formed, place, place_at, rising, unbroken, kept, keeps}

-- ---- places: the last has the highest number

last-highest : (places : List ℕ) (n top : ℕ) → ((i j : ℕ) → i < j → j < n → num (get_or places i 0) < num (get_or places j 0))
    → num (prior places n) ≤ top → (i : ℕ) → i < n → num (get_or places i 0) ≤ top
unfolding prior
last-highest places zero top r l i h = absurd (not-suc-le-zero h)
last-highest places (suc n) top r l i h = ⊎_elim (λ e. rw e l) (λ k. omega (arith, r i n k (omega arith))) (below_suc h)

pub prior-last : (places : List ℕ) (n : ℕ) → n ≤ length places → 0 < length (take n places)
    → get_or (take n places) (length (take n places) - 1) 0 ≡ prior places n
unfolding prior
prior-last places zero h some = absurd (lt_irrefl 0 some)
prior-last places (suc n) h some =
    let e : length (take (suc n) places) - 1 ≡ n = omega (arith, length-take-le (suc n) places h) in
    rw e (get_or-take (suc n) places n 0 (omega arith))

last_within : (places : List ℕ) (n top : ℕ) → ((i : ℕ) → i < n → num (get_or places i 0) ≤ top) → num (prior places n) ≤ top
unfolding prior
last_within places zero top f = omega arith
last_within places (suc n) top f = f n (omega arith)

-- without places there is nothing to test
pub no-places : (st : State) (sender : ℕ) → st.count ≡ 0 → (leb (num (prior st.places st.count)) st.number && rule6 st sender) ≡ true
unfolding rule6
no-places st sender e =
    and_both _ _
    (le-leb _ _ (last_within st.places st.count st.number (λ i h. absurd (not-suc-le-zero (rw e at h)))))
    (all_of st.count _ (λ i h. absurd (not-suc-le-zero (rw e at h))))

-- ---- all of the rules

module _ (st : State) (sender : ℕ) (h : sender < 16) (c : st.count ≤ 16) where
  enough : rule5 st sender ≡ true → rule6 st sender ≡ true → num st.primary ≤ st.number → num (prior st.places st.count) ≤ st.number → Kept st sender
  unfolding rule5
  enough five six p l =
      let primary = and_left (primary_ok sender st.primary) (all_below 16 (λ q. formed_ok sender st.primary q (formed st q))) five in
      let each = all-at 16 _ (and_right (primary_ok sender st.primary) (all_below 16 (λ q. formed_ok sender st.primary q (formed st q))) five) in
      let case : (q : ℕ) → q < 16 → Formed sender st.primary q (formed st q) = λ q k. formed-cases sender st.primary q (formed st q) (each q k) in
      let s = primary-sound sender st.primary h primary in
      record {
        count = c;
        primary-sound = s;
        primary-ok = primary;
        primary-number = p;
        formed-sound = λ q k. formed-sound sender st.primary q (formed st q) h s (case q k);
        formed-ok = each;
        formed-number = λ q k. formed-number sender st.primary q (formed st q) st.number p (case q k);
        place-sound = λ i k. has-sound (place st i) sender h (place_at st sender six i k).2;
        place-sender = λ i k. (place_at st sender six i k).2;
        place-above = λ i k. (place_at st sender six i k).1;
        place-some = λ i k. omega (arith, (place_at st sender six i k).0);
        place-rising = rising st sender six;
        place-number = last-highest st.places st.count st.number (rising st sender six) l;
      }

  pub fewer-tests
      : (leb (num st.primary) st.number
      && primary_ok sender st.primary
      && all_below 16 (λ q. formed_ok sender st.primary q (formed st q))
      && (leb (num (prior st.places st.count)) st.number && rule6 st sender))
      ≡ eqb (broken st sender) 0
  unfolding keeps_rules rule5
  fewer-tests =
      let n = leb (num st.primary) st.number in
      let p = primary_ok sender st.primary in
      let f = all_below 16 (λ q. formed_ok sender st.primary q (formed st q)) in
      let l = leb (num (prior st.places st.count)) st.number in
      let six = rule6 st sender in
      let b = eqb (broken st sender) 0 in
      test-ext (n && p && f && (l && six)) b
      (λ t.
      let u = and_left (n && p && f) (l && six) t in
      let v = and_left (n && p) f u in
      let w = and_right (n && p && f) (l && six) t in
      and_right (leb st.count 16) b
      (keeps st sender
      (enough (and_both p f (and_right n p v) (and_right (n && p) f u)) (and_right l six w) (leb-true _ _ (and_left n p v)) (leb-true _ _ (and_left l six w)))))
      (λ e.
      let t = unbroken st sender (eqb-true _ _ e) in
      let k = kept st sender (and_both (leb st.count 16) b (le-leb _ _ c) e) in
      and_both (n && p && f) (l && six)
      (and_both (n && p) f (and_both n p (le-leb _ _ k.primary-number) k.primary-ok) (all_of 16 _ k.formed-ok))
      (and_both l six (le-leb _ _ (last_within st.places st.count st.number k.place-number)) t.six))
