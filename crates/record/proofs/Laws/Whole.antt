-- A whole record, part by part and both ways: each test as the fact that it says.
use mathlib.Core.Bool.{Bool, true, false, not, ◌&&◌, ◌||◌}
use mathlib.Core.Logic.{◌⊎◌, inl, inr, ⊎_elim}
use mathlib.Core.Path.{◌≡◌, ap}
use mathlib.Core.List.{List}
use Prim.Native.Nat.{ℕ, ◌≤◌, ◌<◌}
use native.Mathlib.Omega.{arith}
use lib.Dec.{eqb, leb, ltb}
use lib.ListN.{length}
use borrow.Author.Tests.{eq-eqb, ne_eqb, eqb-true, eqb-false, leb-true, le-leb, ltb-true, lt-ltb}
use Rattle.loops.proofs.Laws.Truth.{and_left, and_right, and_both, or_cases, or_left, or_right, passes-or-fails, not-true}
use Rattle.loops.proofs.Laws.Tests.{all-at, all_of}
use Rattle.group.specs.Heads.{has, less, only, within}
use Rattle.group.specs.Words.{heads, num, rank, session_word}
use Rattle.group.specs.Quorum.{enough}
use Rattle.group.proofs.Laws.Formed.{formed-cases, formed-number as in-order-number}
use Rattle.record.specs.Layout.{core, least, own, entered, number, primary, formed_for, place_at}
use Rattle.record.specs.Whole.{group_whole, limits_whole, primary_whole, formed_whole, used_ok, place_whole, apart, apart_whole, top_whole, marks_ok, marks_whole, words_whole, whole}

-- ---- the length

pub other_length : (r : List ℕ) → (length r ≡ 52 → ⊥) → whole r ≡ false
unfolding whole
other_length r h = ap (λ (b : Bool). b && words_whole r) (ne_eqb (length r) 52 h)

pub right_length : (r : List ℕ) → length r ≡ 52 → whole r ≡ words_whole r
unfolding whole
right_length r h = ap (λ (b : Bool). b && words_whole r) (eq-eqb (length r) 52 h)

pub ruleset by_length = (other_length, right_length)

pub whole_length : (r : List ℕ) → whole r ≡ true → length r ≡ 52
unfolding whole
whole_length r e = eqb-true (length r) 52 (and_left (eqb (length r) 52) (words_whole r) e)

-- ---- the whole record

pub record Whole (r : List ℕ) : Type 0 where
  pub long : length r ≡ 52
  pub group : group_whole r ≡ true
  pub view : entered r ≤ 4294967295
  pub top : number r ≤ 4294967295
  pub last : primary_whole r ≡ true
  pub formed : (q : ℕ) → q < 16 → formed_whole r q ≡ true
  pub places : (i : ℕ) → i < 16 → place_whole r i ≡ true
  pub apart-places : (i : ℕ) → i < 16 → (j : ℕ) → j < i → apart r i j ≡ true
  pub highest : num (primary r) ≤ number r
  pub marks : (i : ℕ) → i < 16 → marks_whole r i ≡ true

record Parts (a b c d e f g h : Bool) : Type 0 where
  pub first : a ≡ true
  pub second : b ≡ true
  pub third : c ≡ true
  pub fourth : d ≡ true
  pub fifth : e ≡ true
  pub sixth : f ≡ true
  pub seventh : g ≡ true
  pub eighth : h ≡ true

parts : (a b c d e f g h : Bool) → (a && b && c && d && e && f && g && h) ≡ true → Parts a b c d e f g h
parts a b c d e f g h t₈ =
    let t₇ = and_left (a && b && c && d && e && f && g) h t₈ in
    let t₆ = and_left (a && b && c && d && e && f) g t₇ in
    let t₅ = and_left (a && b && c && d && e) f t₆ in
    let t₄ = and_left (a && b && c && d) e t₅ in
    let t₃ = and_left (a && b && c) d t₄ in
    let t₂ = and_left (a && b) c t₃ in
    record {
      first = and_left a b t₂;
      second = and_right a b t₂;
      third = and_right (a && b) c t₃;
      fourth = and_right (a && b && c) d t₄;
      fifth = and_right (a && b && c && d) e t₅;
      sixth = and_right (a && b && c && d && e) f t₆;
      seventh = and_right (a && b && c && d && e && f) g t₇;
      eighth = and_right (a && b && c && d && e && f && g) h t₈;
    }

pub whole_parts : (r : List ℕ) → whole r ≡ true → Whole r
unfolding whole words_whole limits_whole top_whole apart_whole
whole_parts r e =
    let p = parts _ _ _ _ _ _ _ _ (and_right (eqb (length r) 52) (words_whole r) e) in
    record {
      long = whole_length r e;
      group = p.first;
      view = leb-true (entered r) 4294967295 (and_left (leb (entered r) 4294967295) (leb (number r) 4294967295) p.second);
      top = leb-true (number r) 4294967295 (and_right (leb (entered r) 4294967295) (leb (number r) 4294967295) p.second);
      last = p.third;
      formed = all-at 16 (formed_whole r) p.fourth;
      places = all-at 16 (place_whole r) p.fifth;
      apart-places = λ i h. all-at i (apart r i) (all-at 16 (apart_whole r) p.sixth i h);
      highest = leb-true (num (primary r)) (number r) p.seventh;
      marks = all-at 16 (marks_whole r) p.eighth;
    }

pub make-whole : (r : List ℕ) → Whole r → whole r ≡ true
unfolding whole words_whole limits_whole top_whole apart_whole
make-whole r w =
    and_both _ _ (eq-eqb (length r) 52 w.long)
    (and_both _ _ (and_both _ _ (and_both _ _ (and_both _ _ (and_both _ _ (and_both _ _ (and_both _ _ w.group
    (and_both _ _ (le-leb (entered r) 4294967295 w.view) (le-leb (number r) 4294967295 w.top)))
    w.last)
    (all_of 16 (formed_whole r) w.formed))
    (all_of 16 (place_whole r) w.places))
    (all_of 16 (apart_whole r) (λ i h. all_of i (apart r i) (w.apart-places i h))))
    (le-leb (num (primary r)) (number r) w.highest))
    (all_of 16 (marks_whole r) w.marks))

-- ---- a used place

pub record Used (own core least p top w : ℕ) : Type 0 where
  pub form : session_word w ≡ true
  pub mine : has w own ≡ true
  pub backed : enough core least (heads w) ≡ true
  pub numbered : 1 ≤ num w
  pub above : rank p < rank w
  pub below : num w ≤ top

pub used-parts : (own core least p top w : ℕ) → used_ok own core least p top w ≡ true → Used own core least p top w
unfolding used_ok
used-parts own core least p top w t₆ =
    let a = session_word w in
    let b = has w own in
    let c = enough core least (heads w) in
    let d = leb 1 (num w) in
    let e = ltb (rank p) (rank w) in
    let t₅ = and_left (a && b && c && d && e) (leb (num w) top) t₆ in
    let t₄ = and_left (a && b && c && d) e t₅ in
    let t₃ = and_left (a && b && c) d t₄ in
    let t₂ = and_left (a && b) c t₃ in
    record {
      form = and_left a b t₂;
      mine = and_right a b t₂;
      backed = and_right (a && b) c t₃;
      numbered = leb-true 1 (num w) (and_right (a && b && c) d t₄);
      above = ltb-true (rank p) (rank w) (and_right (a && b && c && d) e t₅);
      below = leb-true (num w) top (and_right (a && b && c && d && e) (leb (num w) top) t₆);
    }

pub make-used : (own core least p top w : ℕ) → Used own core least p top w → used_ok own core least p top w ≡ true
unfolding used_ok
make-used own core least p top w u =
    and_both _ _ (and_both _ _ (and_both _ _ (and_both _ _ (and_both _ _ u.form u.mine) u.backed)
    (le-leb 1 (num w) u.numbered))
    (lt-ltb (rank p) (rank w) u.above))
    (le-leb (num w) top u.below)

-- a place is free or used
pub place-cases : (r : List ℕ) (i : ℕ) → place_whole r i ≡ true
    → (place_at r i ≡ 0) ⊎ (Used (own r) (core r) (least r) (primary r) (number r) (place_at r i))
unfolding place_whole
place-cases r i e =
    ⊎_elim
    (λ z. inl (eqb-true (place_at r i) 0 z))
    (λ u. inr (used-parts (own r) (core r) (least r) (primary r) (number r) (place_at r i) u))
    (or_cases (eqb (place_at r i) 0) _ e)

pub free-whole : (r : List ℕ) (i : ℕ) → place_at r i ≡ 0 → place_whole r i ≡ true
unfolding place_whole
free-whole r i z = or_left (eqb (place_at r i) 0) _ (eq-eqb (place_at r i) 0 z)

pub used-whole : (r : List ℕ) (i : ℕ) → Used (own r) (core r) (least r) (primary r) (number r) (place_at r i) → place_whole r i ≡ true
unfolding place_whole
used-whole r i u = or_right (eqb (place_at r i) 0) _ (make-used (own r) (core r) (least r) (primary r) (number r) (place_at r i) u)

-- ---- two places

-- two used places of one number are no two
pub apart-at : (r : List ℕ) (i j : ℕ) → apart r i j ≡ true → (place_at r i ≡ 0 → ⊥) → (place_at r j ≡ 0 → ⊥) → num (place_at r i) ≡ num (place_at r j) → ⊥
unfolding apart
apart-at r i j e u v n =
    ⊎_elim
    (λ a. ⊎_elim (λ z. u (eqb-true (place_at r i) 0 z)) (λ z. v (eqb-true (place_at r j) 0 z)) (or_cases (eqb (place_at r i) 0) (eqb (place_at r j) 0) a))
    (λ b. eqb-false (num (place_at r i)) (num (place_at r j)) (not-true _ b) n)
    (or_cases (eqb (place_at r i) 0 || eqb (place_at r j) 0) _ e)

pub apart_of : (r : List ℕ) (i j : ℕ) → ((place_at r i ≡ 0 → ⊥) → (place_at r j ≡ 0 → ⊥) → num (place_at r i) ≡ num (place_at r j) → ⊥) → apart r i j ≡ true
unfolding apart
apart_of r i j f =
    ⊎_elim
    (λ z. or_left (eqb (place_at r i) 0 || eqb (place_at r j) 0) _ (or_left (eqb (place_at r i) 0) _ z))
    (λ u.
    ⊎_elim
    (λ z. or_left (eqb (place_at r i) 0 || eqb (place_at r j) 0) _ (or_right (eqb (place_at r i) 0) _ z))
    (λ v.
    or_right (eqb (place_at r i) 0 || eqb (place_at r j) 0) _
    (ap not (ne_eqb (num (place_at r i)) (num (place_at r j)) (f (eqb-false (place_at r i) 0 u) (eqb-false (place_at r j) 0 v)))))
    (passes-or-fails (eqb (place_at r j) 0)))
    (passes-or-fails (eqb (place_at r i) 0))

-- a free place is apart from all
pub free-apart : (r : List ℕ) (i : ℕ) → place_at r i ≡ 0 → apart_whole r i ≡ true
unfolding apart_whole
free-apart r i z = all_of i (apart r i) (λ j h. apart_of r i j (λ u v e. u z))

-- ---- "word 2 at least every number"

module _ (r : List ℕ) (w : Whole r) where
  pub formed-number : (q : ℕ) → q < 16 → num (formed_for r q) ≤ number r
  unfolding formed_whole
  formed-number q h =
      in-order-number (own r) (primary r) q (formed_for r q) (number r) w.highest
      (formed-cases (own r) (primary r) q (formed_for r q) (and_right (session_word (formed_for r q)) _ (w.formed q h)))

  pub place-number : (i : ℕ) → i < 16 → num (place_at r i) ≤ number r
  place-number i h = ⊎_elim (λ z. rw z (omega arith)) (λ u. u.below) (place-cases r i (w.places i h))

-- ---- marks

pub marks-free : (own w m : ℕ) → w ≡ 0 → marks_ok own w m ≡ eqb m 0
unfolding marks_ok
marks-free own w m z = rw (eq-eqb w 0 z)

pub marks-used : (own w m : ℕ) → (w ≡ 0 → ⊥) → marks_ok own w m ≡ within m (less (heads w) (only own))
unfolding marks_ok
marks-used own w m h = rw (ne_eqb w 0 h)
