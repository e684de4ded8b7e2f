-- What the reader's definitions answer in each case: the rules' tests decide the nested choice one after the other.
use mathlib.Core.Path.{sym, ◌≡◌, refl}
use mathlib.Core.Bool.{Bool, cond, ◌&&◌, true, false, not}
use mathlib.Core.Logic.{◌⊎◌, inl, inr, ⊎_elim}
use Rattle.lines.specs.Read.{Read, StateLine, AttemptLine}
use Rattle.loops.proofs.Laws.Truth.{or_cases, clash, fails-if, cond-elim, and_left, and_right}
use mathlib.Core.List.{List}
use Prim.Native.Nat.{ℕ, ◌+◌, ◌*◌, ◌≤◌, ◌<◌}
use native.Mathlib.Omega.{arith}
use borrow.Author.Tests.{leb-true, le-leb, lt-leb, lt-ltb, le-ltb, eqb-true, eqb-false, eq-eqb, ne_eqb, not-true}
use lib.ListN.{length}
use lib.Dec.{leb, eqb}
use Rattle.state.specs.Values.{no_state}
use Rattle.state.specs.Rules.{broken}
use Rattle.lines.specs.Hex.{unhex, line_end, line_of}
use Rattle.lines.specs.Reading.{kind_of, view_of, sender_of, count_of, state_of, rule1, state_fits, rule2, rule3, later_broken, first_broken, breaks, carried, answer, judged, read_line, read_whole}
use Rattle.lines.specs.Theorems.{WasRead}

-- ---- rule 3

pub head-true : (f : List ℕ) → rule3 f ≡ true → (view_of f ≡ 0 → ⊥) × (sender_of f ≤ 15)
unfolding rule3
head-true f h =
    let a = not (eqb (view_of f) 0) in
    let b = leb (sender_of f) 15 in
    (eqb-false _ _ (not-true _ (and_left a b h)), leb-true _ _ (and_right a b h))

pub head_ok : (f : List ℕ) → (view_of f ≡ 0 → ⊥) → sender_of f ≤ 15 → rule3 f ≡ true
unfolding rule3
head_ok f v s = simp (ne_eqb _ _ v, le-leb _ _ s)

-- ---- rule 2 of a state

pub fits-true : (n : ℕ) (f : List ℕ) → state_fits n f ≡ true → (count_of f ≤ 16) × (n ≡ 226 + 12 * count_of f)
unfolding state_fits
fits-true n f h =
    let a = leb (count_of f) 16 in
    let b = eqb n (226 + 12 * count_of f) in
    (leb-true _ _ (and_left a b h), eqb-true _ _ (and_right a b h))

pub fits-ok : (n : ℕ) (f : List ℕ) → count_of f ≤ 16 → n ≡ 226 + 12 * count_of f → state_fits n f ≡ true
unfolding state_fits
fits-ok n f a b = simp (le-leb _ _ a, eq-eqb _ _ b)

pub fits-many : (n : ℕ) (f : List ℕ) → 16 < count_of f → state_fits n f ≡ false
unfolding state_fits
fits-many n f a = simp (lt-leb _ _ a)

pub fits-length : (n : ℕ) (f : List ℕ) → (n ≡ 226 + 12 * count_of f → ⊥) → state_fits n f ≡ false
unfolding state_fits
fits-length n f a = simp (ne_eqb _ _ a, mathlib.Core.Bool.and-false)

-- ---- a line

pub line-digits : (l : List ℕ) → rule1 l ≡ false → judged l ≡ breaks 1
unfolding judged first_broken answer
line-digits l a = simp a

module _ (l : List ℕ) (d : rule1 l ≡ true) where
  pub line_other : (kind_of (unhex l) ≡ 1 → ⊥) → (kind_of (unhex l) ≡ 2 → ⊥) → judged l ≡ breaks 2
  unfolding judged first_broken answer rule2
  line_other k j = simp (d, ne_eqb _ _ k, ne_eqb _ _ j)

  pub line-long : 418 < length l → judged l ≡ breaks 2
  unfolding judged first_broken answer rule2
  line-long h =
      let a : state_fits (length l) (unhex l) ≡ false = fails-if _ (λ t. let z = fits-true _ _ t in omega arith) in
      simp (d, a, ne_eqb (length l) 12 (λ e. omega arith), mathlib.Core.Bool.and-false)

  -- an attempt
  pub attempt-length : kind_of (unhex l) ≡ 2 → (length l ≡ 12 → ⊥) → judged l ≡ breaks 2
  unfolding judged first_broken answer rule2
  attempt-length k a = rw (d, k, ne_eqb _ _ a)

  pub attempt-head : kind_of (unhex l) ≡ 2 → length l ≡ 12 → rule3 (unhex l) ≡ false → judged l ≡ breaks 3
  unfolding judged first_broken answer rule2
  attempt-head k a b = rw (d, k, a, b)

  pub attempt-kept : kind_of (unhex l) ≡ 2 → length l ≡ 12 → rule3 (unhex l) ≡ true
      → judged l ≡ record { line = AttemptLine (view_of (unhex l)) (sender_of (unhex l)); state = no_state }
  unfolding judged first_broken answer rule2 later_broken carried
  attempt-kept k a b = rw (d, k, a, b)

  -- a state
  pub state-length : kind_of (unhex l) ≡ 1 → state_fits (length l) (unhex l) ≡ false → judged l ≡ breaks 2
  unfolding judged first_broken answer rule2
  state-length k a = rw (d, k, a)

  pub state-head : kind_of (unhex l) ≡ 1 → state_fits (length l) (unhex l) ≡ true → rule3 (unhex l) ≡ false → judged l ≡ breaks 3
  unfolding judged first_broken answer rule2
  state-head k a b = rw (d, k, a, b)

  pub state-broken : kind_of (unhex l) ≡ 1 → state_fits (length l) (unhex l) ≡ true → rule3 (unhex l) ≡ true
      → (n : ℕ) → n ≡ broken (state_of (unhex l)) (sender_of (unhex l)) → (n ≡ 0 → ⊥) → judged l ≡ breaks n
  unfolding judged first_broken answer rule2 later_broken
  state-broken k a b n e z = rw (d, k, a, b, ← e, ne_eqb _ _ z)

  pub state-kept : kind_of (unhex l) ≡ 1 → state_fits (length l) (unhex l) ≡ true → rule3 (unhex l) ≡ true
      → broken (state_of (unhex l)) (sender_of (unhex l)) ≡ 0
      → judged l ≡ record { line = StateLine (view_of (unhex l)) (sender_of (unhex l)); state = state_of (unhex l) }
  unfolding judged first_broken answer rule2 later_broken carried
  state-kept k a b e = rw (d, k, a, b, e)

-- ---- a line that was read

pub record Passed (l : List ℕ) : Type 0 where
  pub one : rule1 l ≡ true
  pub two : rule2 (length l) (unhex l) ≡ true
  pub three : rule3 (unhex l) ≡ true
  pub later : later_broken (unhex l) ≡ 0

unbroken : (l : List ℕ) → first_broken l ≡ 0 → Passed l
unfolding first_broken
unbroken l h = go (rule1 l) (rule2 (length l) (unhex l)) (rule3 (unhex l)) refl refl refl h
  where
    go : (a b c : Bool) → rule1 l ≡ a → rule2 (length l) (unhex l) ≡ b → rule3 (unhex l) ≡ c
        → cond a (cond b (cond c (later_broken (unhex l)) 3) 2) 1 ≡ 0 → Passed l
    go true true true p q r e = record { one = p; two = q; three = r; later = e }
    go true true false p q r e = absurd (omega arith)
    go true false c p q r e = absurd (omega arith)
    go false b c p q r e = absurd (omega arith)

pub none_read : (k : ℕ) → WasRead (breaks k) → ⊥
unfolding breaks
none_read k e = clash (sym e)

pub passed : (l : List ℕ) → WasRead (judged l) → Passed l
unfolding judged answer
passed l =
    cond-elim (λ (r : Read). WasRead r → Passed l) (eqb (first_broken l) 0) _ _
    (λ e w. unbroken l (eqb-true _ _ e))
    (λ e w. absurd (none_read _ w))

-- its kind
pub kinds : (n : ℕ) (f : List ℕ) → rule2 n f ≡ true → ((kind_of f ≡ 1) × (state_fits n f ≡ true)) ⊎ ((kind_of f ≡ 2) × (n ≡ 12))
unfolding rule2
kinds n f h =
    ⊎_elim
    (λ a. inl (eqb-true _ _ (and_left (eqb (kind_of f) 1) (state_fits n f) a), and_right (eqb (kind_of f) 1) (state_fits n f) a))
    (λ b. inr (eqb-true _ _ (and_left (eqb (kind_of f) 2) (eqb n 12) b), eqb-true _ _ (and_right (eqb (kind_of f) 2) (eqb n 12) b)))
    (or_cases (eqb (kind_of f) 1 && state_fits n f) (eqb (kind_of f) 2 && eqb n 12) h)

-- ---- the first line

pub first-line : (s : List ℕ) → line_end s < length s → read_line s ≡ judged (line_of s)
unfolding read_line
first-line s h = simp (lt-ltb _ _ h)

pub no_line-breaks : (s : List ℕ) → length s ≤ line_end s → read_line s ≡ breaks 1
unfolding read_line
no_line-breaks s h = simp (le-ltb _ _ h)

pub whole-line : (s : List ℕ) → line_end s + 1 ≡ length s → read_whole s ≡ judged (line_of s)
unfolding read_whole
whole-line s h = simp (eq-eqb _ _ h)

pub not-whole : (s : List ℕ) → (line_end s + 1 ≡ length s → ⊥) → read_whole s ≡ breaks 1
unfolding read_whole
not-whole s h = simp (ne_eqb _ _ h)
