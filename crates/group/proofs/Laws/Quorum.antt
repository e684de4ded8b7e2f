-- The laws of the quorum test, for any tie-break that picks a head of each set that has one. A passed test is taken apart into its clause;
-- two parts of one set that together are larger than it overlap, and a tie is broken by one head that both have.
use mathlib.Core.Path.{◌≡◌, subst}
use mathlib.Core.Bool.{true, not, ◌&&◌, ◌||◌}
use mathlib.Core.Logic.{⊎_elim}
use Prim.Native.Nat.{ℕ, ◌+◌, ◌-◌, ◌*◌, ◌≤◌, ◌<◌}
use native.Mathlib.Nat.{lt_irrefl, eq-zero-or-pos}
use native.Mathlib.Omega.{arith}
use lib.Dec.{eqb}
use borrow.Author.Tests.{eq-eqb, eqb-true, leb-true, ltb-true}
use Rattle.loops.proofs.Laws.Truth.{and_left, and_right, or_cases, not-true, not-both}
use Rattle.group.specs.Heads.{has, size, empty, shared, highest, Share}
use Rattle.group.specs.Quorum.{enough, majority, tied, blocking, passes}
use Rattle.group.proofs.Laws.Heads.{size-overlap, share-found, highest-member}

pub not-empty : (s : ℕ) → not (empty s) ≡ true → 0 < size s
unfolding empty
not-empty s t = ⊎_elim (λ e. absurd (not-both (eqb (size s) 0) (eq-eqb (size s) 0 e) (not-true (eqb (size s) 0) t))) (λ p. p) (eq-zero-or-pos (size s))

-- by which clause t passes
pub data Clause (top : ℕ → ℕ) (core least s t : ℕ) : Type 0 where
  by-majority : size s < 2 * shared s t → Clause top core least s t
  by_tie : 2 * shared s t ≡ size s → (has t (top s) ≡ true) → Clause top core least s t
  by-blocking : size core - least < shared core t → Clause top core least s t

-- what a passed test says
pub record Passed (top : ℕ → ℕ) (core least s t : ℕ) : Type 0 where
  pub some-head : 0 < size s
  pub enough : least ≤ shared core t
  pub clause : Clause top core least s t

clause-of : (top : ℕ → ℕ) (core least s t : ℕ) → (majority s t || tied top s t || blocking core least t) ≡ true → Clause top core least s t
unfolding majority tied blocking
clause-of top core least s t p =
    ⊎_elim
    (λ q. ⊎_elim
    (λ m. by-majority (ltb-true (size s) (2 * shared s t) m))
    (λ m.
    let e = and_left (eqb (2 * shared s t) (size s) && not (empty s)) (has t (top s)) m in
    by_tie (eqb-true (2 * shared s t) (size s) (and_left (eqb (2 * shared s t) (size s)) (not (empty s)) e)) (and_right (eqb (2 * shared s t) (size s) && not (empty s)) (has t (top s)) m))
    (or_cases (majority s t) (tied top s t) q))
    (λ m. by-blocking (ltb-true (size core - least) (shared core t) m))
    (or_cases (majority s t || tied top s t) (blocking core least t) p)

pub passed : (top : ℕ → ℕ) (core least s t : ℕ) → passes top core least s t ≡ true → Passed top core least s t
unfolding passes enough
passed top core least s t p =
    let two = not (empty s) && enough core least t in
    let clauses = majority s t || tied top s t || blocking core least t in
    let l = and_left two clauses p in
    record {
      some-head = not-empty s (and_left (not (empty s)) (enough core least t) l);
      enough = leb-true least (shared core t) (and_right (not (empty s)) (enough core least t) l);
      clause = clause-of top core least s t (and_right two clauses p);
    }

-- two parts of p that are larger together than p share a head
pub overlap : (p s t : ℕ) → size p < shared p s + shared p t → Share s t
unfolding shared
overlap p s t h = share-found s t (omega (arith, size-overlap p s t))

module _ (top : ℕ → ℕ) (member : (s : ℕ) → 0 < size s → (top s < 16) × (has s (top s) ≡ true)) where
  -- (i) two sets that pass against one s share a head
  pub pass-share : (core least s t t' : ℕ) → passes top core least s t ≡ true → passes top core least s t' ≡ true → Share t t'
  pass-share core least s t t' p p' = go (passed top core least s t p) (passed top core least s t' p')
    where
      block : size core - least < shared core t → least ≤ shared core t' → Share t t'
      block a b = overlap core t t' (omega arith)

      block' : least ≤ shared core t → size core - least < shared core t' → Share t t'
      block' a b = overlap core t t' (omega arith)

      cases : 0 < size s → least ≤ shared core t → least ≤ shared core t' → Clause top core least s t → Clause top core least s t' → Share t t'
      cases z a b (by-majority m) (by-majority m') = overlap s t t' (omega arith)
      cases z a b (by-majority m) (by_tie e k) = overlap s t t' (omega arith)
      cases z a b (by-majority m) (by-blocking m') = block' a m'
      cases z a b (by_tie e k) (by-majority m') = overlap s t t' (omega arith)
      cases z a b (by_tie e k) (by_tie e' k') = (top s, (member s z).0, k, k')
      cases z a b (by_tie e k) (by-blocking m') = block' a m'
      cases z a b (by-blocking m) c = block m b

      go : Passed top core least s t → Passed top core least s t' → Share t t'
      go a b = cases a.some-head a.enough b.enough a.clause b.clause

  -- (ii) t shares a head with s, if s itself has least heads of the core
  pub pass_meets : (core least s t : ℕ) → least ≤ shared core s → passes top core least s t ≡ true → Share s t
  unfolding shared
  pass_meets core least s t q p = go (passed top core least s t p)
    where
      cases : 0 < size s → Clause top core least s t → Share s t
      cases z (by-majority m) = share-found s t (omega arith)
      cases z (by_tie e k) = share-found s t (omega arith)
      cases z (by-blocking m) = overlap core s t (omega arith)

      go : Passed top core least s t → Share s t
      go a = cases a.some-head a.clause

  -- (iii) whoever passes has at least least heads of the core
  pub pass-enough : (core least s t : ℕ) → passes top core least s t ≡ true → least ≤ shared core t
  pass-enough core least s t p = (passed top core least s t p).enough

  -- (iv) none passes for s empty
  pub pass-none : (core least s t : ℕ) → size s ≡ 0 → passes top core least s t ≡ true → ⊥
  pass-none core least s t e p = lt_irrefl 0 (subst (λ (x : ℕ). 0 < x) e (passed top core least s t p).some-head)

-- document 01's tie-break
pub highest-share : (core least s t t' : ℕ) → passes highest core least s t ≡ true → passes highest core least s t' ≡ true → Share t t'
highest-share = pass-share highest highest-member

pub highest-meets : (core least s t : ℕ) → least ≤ shared core s → passes highest core least s t ≡ true → Share s t
highest-meets = pass_meets highest highest-member
