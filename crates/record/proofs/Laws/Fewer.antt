-- The tests by which code tells a whole record: fewer than the definition's, which follow from them. A session with own head is sound, one that is numbered
-- at most as another within the limits is within them, and a used place's number is above that of a free one.
use mathlib.Core.Bool.{Bool, true, false, not, ◌&&◌}
use mathlib.Core.Logic.{⊎_elim}
use mathlib.Core.Path.{◌≡◌, refl, sym, ap, ◌∙◌}
use mathlib.Core.List.{List}
use Prim.Native.Nat.{ℕ, ◌≤◌, ◌<◌}
use native.Mathlib.Nat.{lt_irrefl}
use native.Mathlib.Omega.{arith}
use lib.Dec.{eqb, leb, ltb}
use lib.ListN.{length}
use borrow.Author.Tests.{ne_eqb, eqb-false, leb-true, le-leb, ltb-true, lt-ltb}
use Rattle.loops.specs.Below.{all_below}
use Rattle.loops.proofs.Laws.Truth.{and_left, and_right, and_both, not-both, not-true, fails-if, passes-or-fails, test-ext}
use Rattle.loops.proofs.Laws.Tests.{all-at, all_of}
use Rattle.group.specs.Heads.{has, shared}
use Rattle.group.specs.Words.{heads, num, rank, sound, session_word, primary_ok, formed_ok}
use Rattle.group.specs.Quorum.{enough}
use Rattle.group.proofs.Laws.Words.{rank-none, rank-some, none_or_some, word_sound, word_number}
use Rattle.group.proofs.Laws.Formed.{formed-cases, has-sound, primary-sound, formed-sound, formed-number}
use Rattle.record.specs.Layout.{core, least, own, entered, number, primary, place_at, marks_at}
use Rattle.record.specs.Whole.{group_whole, limits_whole, primary_whole, formed_whole, used_ok, place_whole, apart, apart_whole, top_whole, marks_whole, words_whole, whole}
use Rattle.record.proofs.Laws.Whole.{right_length, make-whole, whole_parts, used-parts, make-used, place-cases, apart-at, apart_of, free-whole, free-apart, marks-free}

-- a test from which another follows is the two of them
implied : (a b : Bool) → (b ≡ true → a ≡ true) → b ≡ (a && b)
implied a true f = sym (and_both a true (f refl) refl)
implied a false f = test-ext false (a && false) (λ e. and_both a false (f e) e) (and_right a false)

-- a sound session numbered within the limits is a session word
word_of : (w : ℕ) → sound w ≡ true → num w ≤ 4294967295 → session_word w ≡ true
unfolding session_word
word_of w s n = and_both (sound w) _ s (lt-ltb w 281474976710656 (omega arith))

-- ---- words 0 to 3

pub first-tests : (r : List ℕ) {g k : Bool} {v n p o m : ℕ} → o ≡ own r → o < 16 → g ≡ group_whole r → v ≡ entered r → n ≡ number r → p ≡ primary r
    → k ≡ primary_ok o p → m ≡ num p → (g && leb v 4294967295 && leb n 4294967295 && k && leb m n) ≡ (group_whole r && limits_whole r && primary_whole r && top_whole r)
unfolding limits_whole primary_whole top_whole
first-tests r {g} {k} {v} {n} {p} {o} {m} eo h eg ev en ep ek em =
    rw (← eg, ← ev, ← en, ← ep, ← eo, ← ek, ← em) (same g (leb v 4294967295) (leb n 4294967295) k (leb m n) (session_word p) (λ tn tk tm.
    word_of p (primary-sound o p h (sym ek ∙ tk)) (omega (arith, leb-true m n tm, leb-true n 4294967295 tn))))
  where
    same : (g a b k l s : Bool) → (b ≡ true → k ≡ true → l ≡ true → s ≡ true) → (g && a && b && k && l) ≡ (g && (a && b) && (s && k) && l)
    same false a b k l s f = refl
    same true false b k l s f = refl
    same true true false k l s f = refl
    same true true true true true s f = rw (f refl refl refl)
    same true true true true false true f = refl
    same true true true true false false f = refl
    same true true true false l true f = refl
    same true true true false l false f = refl

module _ (r : List ℕ) (t : (group_whole r && limits_whole r && primary_whole r && top_whole r) ≡ true) where
  group-limits : (group_whole r && limits_whole r) ≡ true
  group-limits = and_left (group_whole r && limits_whole r) (primary_whole r) (and_left (group_whole r && limits_whole r && primary_whole r) (top_whole r) t)

  first-last : primary_whole r ≡ true
  first-last = and_right (group_whole r && limits_whole r) (primary_whole r) (and_left (group_whole r && limits_whole r && primary_whole r) (top_whole r) t)

  pub first-primary : session_word (primary r) ≡ true
  unfolding primary_whole
  first-primary = and_left (session_word (primary r)) _ first-last

  first-view : entered r ≤ 4294967295
  unfolding limits_whole
  first-view = leb-true (entered r) 4294967295 (and_left (leb (entered r) 4294967295) (leb (number r) 4294967295) (and_right (group_whole r) (limits_whole r) group-limits))

  pub first-number : number r ≤ 4294967295
  unfolding limits_whole
  first-number = leb-true (number r) 4294967295 (and_right (leb (entered r) 4294967295) (leb (number r) 4294967295) (and_right (group_whole r) (limits_whole r) group-limits))

  first-highest : num (primary r) ≤ number r
  unfolding top_whole
  first-highest = leb-true (num (primary r)) (number r) (and_right (group_whole r && limits_whole r && primary_whole r) (top_whole r) t)

-- ---- last formed

-- in order beside a last primary that is a session word, it is one
pub formed-test : (own p q w : ℕ) → own < 16 → session_word p ≡ true → formed_ok own p q w ≡ (session_word w && formed_ok own p q w)
formed-test own p q w h s =
    implied (session_word w) (formed_ok own p q w) (λ e.
    let c = formed-cases own p q w e in
    word_of w (formed-sound own p q w h (word_sound p s) c) (formed-number own p q w 4294967295 (word_number p s) c))

-- ---- places

-- above last primary's number is at least 1, and of a higher rank
ranked : (p w : ℕ) → (w ≡ 0 → ⊥) → num p < num w → rank p < rank w
ranked p w u l = ⊎_elim (λ z. omega (arith, rank-some w u, ap rank z, rank-none)) (λ e. omega (arith, rank-some w u)) (none_or_some p)

numbered : (p w : ℕ) → 1 ≤ num w → rank p < rank w → (w ≡ 0 → ⊥) → num p < num w
numbered p w one l u = ⊎_elim (λ z. rw z (omega arith)) (λ e. omega (arith, rank-some w u)) (none_or_some p)

pub used-test : (own core least p top w : ℕ) {a : Bool} {t s n k : ℕ} → own < 16 → top ≤ 4294967295 → (w ≡ 0 → ⊥)
    → a ≡ has w own → t ≡ heads w → s ≡ shared core t → k ≡ num p → n ≡ num w → (a && leb least s && ltb k n && leb n top) ≡ used_ok own core least p top w
unfolding enough
used-test own core least p top w h l u ea et es ek en = rw (ea, es, et, ek, en) (test-ext _ _ there back)
  where
    there : (has w own && leb least (shared core (heads w)) && ltb (num p) (num w) && leb (num w) top) ≡ true → used_ok own core least p top w ≡ true
    there e =
        let a = has w own in
        let b = leb least (shared core (heads w)) in
        let d = ltb (num p) (num w) in
        let below = leb-true (num w) top (and_right (a && b && d) (leb (num w) top) e) in
        let e₃ = and_left (a && b && d) (leb (num w) top) e in
        let above = ltb-true (num p) (num w) (and_right (a && b) d e₃) in
        let mine = and_left a b (and_left (a && b) d e₃) in
        make-used own core least p top w (record {
          form = word_of w (has-sound w own h mine) (omega arith);
          mine = mine;
          backed = and_right a b (and_left (a && b) d e₃);
          numbered = omega arith;
          above = ranked p w u above;
          below = below;
        })

    back : used_ok own core least p top w ≡ true → (has w own && leb least (shared core (heads w)) && ltb (num p) (num w) && leb (num w) top) ≡ true
    back e =
        let f = used-parts own core least p top w e in
        and_both _ _ (and_both _ _ (and_both _ _ f.mine f.backed) (lt-ltb (num p) (num w) (numbered p w f.numbered f.above u))) (le-leb (num w) top f.below)

-- a number of at least 1 is no free place's
pub apart-test : (r : List ℕ) (i j : ℕ) → 1 ≤ num (place_at r i) → not (eqb (num (place_at r i)) (num (place_at r j))) ≡ apart r i j
apart-test r i j one =
    test-ext _ _
    (λ e. apart_of r i j (λ u v n. eqb-false (num (place_at r i)) (num (place_at r j)) (not-true _ e) n))
    (λ e. ap not (ne_eqb (num (place_at r i)) (num (place_at r j)) (λ n.
    apart-at r i j e (λ z. lt_irrefl 0 (omega (arith, ap num z))) (λ z. lt_irrefl 0 (omega (arith, ap num z))) n)))

-- a place that is not free is asked by the test of a used one
pub used-place : (r : List ℕ) (i : ℕ) {w : ℕ} {u : Bool} → w ≡ place_at r i → (w ≡ 0 → ⊥)
    → u ≡ used_ok (own r) (core r) (least r) (primary r) (number r) w → u ≡ place_whole r i
unfolding place_whole
used-place r i {w} e h eu = eu ∙ rw (← e, ne_eqb w 0 h)

pub used-number : (r : List ℕ) (i : ℕ) {w : ℕ} → w ≡ place_at r i → (w ≡ 0 → ⊥) → place_whole r i ≡ true → 1 ≤ num (place_at r i)
used-number r i e h t = ⊎_elim (λ z. absurd (h (e ∙ z))) (λ u. u.numbered) (place-cases r i t)

-- a place, free or used, with the places before it and its marks
pub free-tests : (r : List ℕ) (i : ℕ) {m : ℕ} → place_at r i ≡ 0 → m ≡ marks_at r i → eqb m 0 ≡ (place_whole r i && apart_whole r i && marks_whole r i)
unfolding marks_whole
free-tests r i z e = rw (free-whole r i z, free-apart r i z, e, marks-free (own r) (place_at r i) (marks_at r i) z)

pub used-tests : (r : List ℕ) (i : ℕ) {m a : Bool} → place_whole r i ≡ true → m ≡ marks_whole r i → a ≡ apart_whole r i → (a && m) ≡ (place_whole r i && apart_whole r i && marks_whole r i)
used-tests r i t em ea = rw (t, em, ea)

pub unused-tests : (r : List ℕ) (i : ℕ) → place_whole r i ≡ false → (place_whole r i && apart_whole r i && marks_whole r i) ≡ false
unused-tests r i f = rw f

-- ---- the whole record

pub not_first : (r : List ℕ) → (group_whole r && limits_whole r && primary_whole r && top_whole r) ≡ false → whole r ≡ false
unfolding limits_whole top_whole
not_first r f = fails-if (whole r) (λ e.
    let w = whole_parts r e in
    not-both _ (and_both _ _ (and_both _ _ (and_both _ _ w.group (and_both _ _ (le-leb (entered r) 4294967295 w.view) (le-leb (number r) 4294967295 w.top))) w.last) (le-leb (num (primary r)) (number r) w.highest)) f)

-- the rest of a record whose words 0 to 3 pass
pub rest-tests : (r : List ℕ) {a b : Bool} → length r ≡ 52 → (group_whole r && limits_whole r && primary_whole r && top_whole r) ≡ true
    → a ≡ all_below 16 (formed_whole r) → b ≡ all_below 16 (λ i. place_whole r i && apart_whole r i && marks_whole r i) → (a && b) ≡ whole r
unfolding apart_whole
rest-tests r {a} {b} l t ea eb =
    test-ext (a && b) (whole r)
    (λ e.
    let each = all-at 16 (λ i. place_whole r i && apart_whole r i && marks_whole r i) (sym eb ∙ and_right a b e) in
    make-whole r (record {
      long = l;
      group = and_left (group_whole r) (limits_whole r) (group-limits r t);
      view = first-view r t;
      top = first-number r t;
      last = first-last r t;
      formed = all-at 16 (formed_whole r) (sym ea ∙ and_left a b e);
      places = λ i h. and_left (place_whole r i) (apart_whole r i) (and_left (place_whole r i && apart_whole r i) (marks_whole r i) (each i h));
      apart-places = λ i h. all-at i (apart r i) (and_right (place_whole r i) (apart_whole r i) (and_left (place_whole r i && apart_whole r i) (marks_whole r i) (each i h)));
      highest = first-highest r t;
      marks = λ i h. and_right (place_whole r i && apart_whole r i) (marks_whole r i) (each i h);
    }))
    (λ e.
    let w = whole_parts r e in
    and_both a b
    (ea ∙ all_of 16 (formed_whole r) w.formed)
    (eb ∙ all_of 16 _ (λ i h. and_both _ _ (and_both _ _ (w.places i h) (all_of i (apart r i) (w.apart-places i h))) (w.marks i h))))

-- all of it, of 52 words
pub all_tests : (r : List ℕ) {f a b : Bool} → length r ≡ 52 → f ≡ (group_whole r && limits_whole r && primary_whole r && top_whole r)
    → a ≡ all_below 16 (formed_whole r) → b ≡ all_below 16 (λ i. place_whole r i && apart_whole r i && marks_whole r i) → (f && (a && b)) ≡ words_whole r
all_tests r {f} {a} {b} l ef ea eb =
    ⊎_elim
    (λ t. ap (λ (x : Bool). x && (a && b)) (ef ∙ t) ∙ rest-tests r l t ea eb ∙ right_length r l)
    (λ n. ap (λ (x : Bool). x && (a && b)) (ef ∙ n) ∙ sym (not_first r n) ∙ right_length r l)
    (passes-or-fails (group_whole r && limits_whole r && primary_whole r && top_whole r))
