-- The fresh record, field by field as document 01 says it, and that it is whole. Each field is a word of the table; a head outside W0 has none, so
-- every test of a session is met by none or by (W0, 0).
use mathlib.Core.Bool.{Bool, true, false, not, cond, ◌&&◌}
use mathlib.Core.Logic.{⊎_elim}
use mathlib.Core.Path.{◌≡◌, refl, ap, ◌∙◌}
use mathlib.Core.List.{List}
use Prim.Native.Nat.{ℕ, ◌+◌, ◌-◌, ◌*◌, ◌/◌, ◌%◌, ◌≤◌, ◌<◌}
use native.Mathlib.Omega.{arith}
use lib.Dec.{eqb, leb, ltb}
use lib.ListN.{length}
use borrow.Author.Tests.{eq-eqb, ne_eqb, eqb-false, leb-true, le-leb, le-ltb, lt-ltb}
use Rattle.loops.proofs.Laws.Truth.{and_left, and_right, and_both, or_left, or_right, not-true, passes-or-fails, clash}
use Rattle.loops.proofs.Laws.Lists.{length-table, get_d-table}
use Rattle.group.specs.Heads.{has, size, empty}
use Rattle.group.specs.Words.{num, sound, session_word, primary_ok, formed_ok}
use Rattle.group.specs.Quorum.{is_group}
use Rattle.group.specs.Fresh.{group_word, fresh_word, fresh_record}
use Rattle.group.proofs.Laws.Heads.{has-none, size-le, size_none}
use Rattle.record.specs.Layout.{word, settings, core, least, own, entered, number, primary, formed_for, place_at, marks_at}
use Rattle.record.specs.Whole.{group_whole, primary_whole, formed_whole, marks_whole, whole}
use Rattle.record.proofs.Laws.Layout.{Reads}
use Rattle.record.proofs.Laws.Whole.{make-whole, free-whole, apart_of, marks-free}

-- ---- what it reads

module _ (c q h : ℕ) where
  pub fresh-length : length (fresh_record c q h) ≡ 52
  unfolding fresh_record
  fresh-length = length-table 52 (fresh_word c q h)

  fresh_at : (k : ℕ) → k < 52 → word (fresh_record c q h) k ≡ fresh_word c q h k
  unfolding fresh_record
  fresh_at k l = get_d-table 52 (fresh_word c q h) k 0 l

  -- "all else is 0"
  zero-at : (k : ℕ) → (k ≡ 0 → ⊥) → (k ≡ 3 → ⊥) → (leb 4 k && ltb k 20) ≡ false → fresh_word c q h k ≡ 0
  unfolding fresh_word
  zero-at k n₀ n₃ e = rw (ne_eqb k 0 n₀, ne_eqb k 3 n₃) (go (has c h) (leb 4 k) (ltb k 20) (has c (k - 4)) e)
    where
      go : (x a b y : Bool) → (a && b) ≡ false → cond (x && false) c (cond (x && a && b && y) c 0) ≡ 0
      go true true true y t = absurd (clash t)
      go true true false y t = refl
      go true false b y t = refl
      go false a b y t = refl

  zero-above : (k : ℕ) → 20 ≤ k → fresh_word c q h k ≡ 0
  zero-above k l = zero-at k (λ e. omega arith) (λ e. omega arith) (rw (le-leb 4 k (omega arith)) (le-ltb k 20 l))

  third : fresh_word c q h 3 ≡ cond (has c h) c 0
  unfolding fresh_word
  third = go (has c h)
    where
      go : (x : Bool) → cond (x && true) c (cond (x && false && true && has c 0) c 0) ≡ cond x c 0
      go true = refl
      go false = refl

  formed-word : (j : ℕ) → j < 16 → fresh_word c q h (4 + j) ≡ cond (has c h && has c j) c 0
  unfolding fresh_word
  formed-word j l =
      let e : 4 + j - 4 ≡ j = omega arith in
      rw (ne_eqb (4 + j) 0 (λ e. omega arith), ne_eqb (4 + j) 3 (λ e. omega arith), le-leb 4 (4 + j) (omega arith), lt-ltb (4 + j) 20 (omega arith), e)
      (go (has c h) (has c j))
    where
      go : (x y : Bool) → cond (x && false) c (cond (x && true && true && y) c 0) ≡ cond (x && y) c 0
      go true y = refl
      go false y = refl

  -- "core heads have last primary (W0, 0), and last formed the same for heads of W0; all else is 0. Heads outside W0 have none."
  pub fresh-reads : Reads (fresh_record c q h) (group_word c q h) 0 0 (cond (has c h) c 0) (λ j. cond (has c h && has c j) c 0) (λ i. 0) (λ i. 0)
  unfolding settings entered number primary formed_for place_at marks_at fresh_word
  fresh-reads = record {
    settings-is = fresh_at 0 (omega arith);
    entered-is = fresh_at 1 (omega arith) ∙ zero-at 1 (λ e. omega arith) (λ e. omega arith) refl;
    number_is = fresh_at 2 (omega arith) ∙ zero-at 2 (λ e. omega arith) (λ e. omega arith) refl;
    primary-is = fresh_at 3 (omega arith) ∙ third;
    formed-is = λ j l. fresh_at (4 + j) (omega arith) ∙ formed-word j l;
    place_is = λ i l. fresh_at (20 + i) (omega arith) ∙ zero-above (20 + i) (omega arith);
    marks-is = λ i l. fresh_at (36 + i) (omega arith) ∙ zero-above (36 + i) (omega arith);
  }

-- ---- it is whole

module _ (c q h : ℕ) (small : c < 65536) (seat : h < 16) (group : is_group c q ≡ true) where
  fresh : List ℕ
  fresh = fresh_record c q h

  some-core : c ≡ 0 → ⊥
  unfolding is_group empty
  some-core z =
      let e : size c ≡ 0 = ap size z ∙ size_none in
      eqb-false (size c) 0 (not-true _ (and_left (not (eqb (size c) 0)) (not (eqb q 0)) (and_left (not (eqb (size c) 0) && not (eqb q 0)) (leb q (size c)) group))) e

  small_least : q ≤ 16
  unfolding is_group
  small_least = omega (arith, leb-true q (size c) (and_right (not (empty c) && not (eqb q 0)) (leb q (size c)) group), size-le c)

  word-is : settings fresh ≡ c + q * 65536 + h * 16777216
  unfolding fresh group_word
  word-is = (fresh-reads c q h).settings-is

  pub fresh-core : core (fresh_record c q h) ≡ c
  unfolding core fresh
  fresh-core = rw word-is (omega (arith, small))

  pub fresh-least : least (fresh_record c q h) ≡ q
  unfolding least fresh
  fresh-least =
      let a : (c + q * 65536 + h * 16777216) / 65536 ≡ q + h * 256 = omega (arith, small) in
      rw (word-is, a) (omega (arith, small_least))

  pub fresh-own : own (fresh_record c q h) ≡ h
  unfolding own fresh
  fresh-own =
      let a : (c + q * 65536 + h * 16777216) / 16777216 ≡ h = omega (arith, small, small_least) in
      rw (word-is, a) (omega (arith, seat))

  group-whole : group_whole fresh ≡ true
  unfolding group_whole fresh
  group-whole =
      let a : (c + q * 65536 + h * 16777216) / 16777216 ≡ h = omega (arith, small, small_least) in
      rw (fresh-core, fresh-least, word-is, a) (and_both _ _ group (lt-ltb h 16 seat))

  core-session : session_word c ≡ true
  unfolding session_word sound
  core-session =
      let a : c % 65536 ≡ c = omega (arith, small) in
      and_both _ _ (or_right (eqb c 0) _ (rw a (ap not (ne_eqb c 0 some-core)))) (lt-ltb c 281474976710656 (omega (arith, small)))

  none-session : session_word 0 ≡ true
  unfolding session_word sound
  none-session = refl

  last-whole : primary_whole fresh ≡ true
  unfolding primary_whole primary_ok fresh
  last-whole =
      rw (fresh-own, (fresh-reads c q h).primary-is)
      (⊎_elim
      (λ e. rw e (and_both _ _ core-session (or_right (eqb c 0) _ e)))
      (λ e. rw e (and_both _ _ none-session refl))
      (passes-or-fails (has c h)))

  formed-whole : (j : ℕ) → j < 16 → formed_whole fresh j ≡ true
  unfolding formed_whole formed_ok fresh
  formed-whole j l =
      rw (fresh-own, (fresh-reads c q h).primary-is, (fresh-reads c q h).formed-is j l)
      (⊎_elim
      (λ (e : has c h ≡ true).
      ⊎_elim
      (λ (f : has c j ≡ true). rw (e, f) (and_both _ _ core-session (or_left (eqb c c) _ (eq-eqb c c refl))))
      (λ (f : has c j ≡ false). rw (e, f) (and_both _ _ none-session refl))
      (passes-or-fails (has c j)))
      (λ (e : has c h ≡ false). rw e (rw (has-none j) (and_both _ _ none-session refl)))
      (passes-or-fails (has c h)))

  highest-is : num (primary fresh) ≤ number fresh
  unfolding fresh
  highest-is =
      rw ((fresh-reads c q h).primary-is, (fresh-reads c q h).number_is)
      (⊎_elim (λ e. rw e (omega (arith, small))) (λ e. rw e (omega arith)) (passes-or-fails (has c h)))

  free : (i : ℕ) → i < 16 → place_at fresh i ≡ 0
  unfolding fresh
  free i l = (fresh-reads c q h).place_is i l

  marks-whole : (i : ℕ) → i < 16 → marks_whole fresh i ≡ true
  unfolding marks_whole fresh
  marks-whole i l = marks-free _ _ _ (free i l) ∙ eq-eqb _ 0 ((fresh-reads c q h).marks-is i l)

  -- A STARTED RECORD IS WHOLE
  pub fresh-whole : whole (fresh_record c q h) ≡ true
  unfolding fresh
  fresh-whole = make-whole fresh (record {
    long = fresh-length c q h;
    group = group-whole;
    view = rw (fresh-reads c q h).entered-is (omega arith);
    top = rw (fresh-reads c q h).number_is (omega arith);
    last = last-whole;
    formed = formed-whole;
    places = λ i l. free-whole fresh i (free i l);
    apart-places = λ i l j k. apart_of fresh i j (λ u v e. u (free i l));
    highest = highest-is;
    marks = marks-whole;
  })
