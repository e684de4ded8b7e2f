-- Laws of session words: a word is its number and its heads, ranks order them, and the highest of a table is the first of the greatest rank.
use mathlib.Core.Path.{◌≡◌, refl, ap, ◌∙◌}
use mathlib.Core.Bool.{true}
use mathlib.Core.Logic.{◌⊎◌, inl, inr, ⊎_elim}
use Prim.Native.Nat.{ℕ, zero, suc, ◌+◌, ◌-◌, ◌/◌, ◌%◌, ◌^◌, ◌<◌, ◌≤◌}
use native.Mathlib.Nat.{le_refl, le_trans, le-suc, not-suc-le-zero, lt_irrefl, eq-zero-or-pos}
use native.Mathlib.Omega.{arith}
use lib.Dec.{eqb}
use lib.Pow.{field, mod-mod-pow}
use borrow.Author.Tests.{ne_eqb, lt-ltb, le-ltb, ltb-true}
use Rattle.loops.specs.Below.{fold_below}
use Rattle.loops.proofs.Laws.Order.{below_suc, lt-or-ge}
use Rattle.loops.proofs.Laws.Truth.{and_left, and_right}
use Rattle.group.specs.Heads.{has}
use Rattle.group.specs.Words.{heads, num, session, rank, sound, session_word, highest_of}

pub num-session : (n s : ℕ) → s < 65536 → num (session n s) ≡ n
num-session n s h = omega arith

pub heads-session : (n s : ℕ) → s < 65536 → heads (session n s) ≡ s
heads-session n s h = omega arith

pub session-parts : (w : ℕ) → session (num w) (heads w) ≡ w
session-parts w = omega arith

-- a session's heads are its word's lowest bits
sixteen : (h : ℕ) → h < 16 → 16 ≡ (16 - h) + h
sixteen h l = omega arith

rest : (h : ℕ) → h < 16 → 16 - h ≡ (15 - h) + 1
rest h l = omega arith

pub has-heads : (w h : ℕ) → h < 16 → has (heads w) h ≡ has w h
unfolding has
has-heads w h l =
    ap (λ (v : ℕ). eqb v 1)
    (ap (λ (j : ℕ). w % 2 ^ j / 2 ^ h % 2) (sixteen h l)
    ∙ ap (λ (v : ℕ). v % 2) (field w (16 - h) h)
    ∙ ap (λ (j : ℕ). w / 2 ^ h % 2 ^ j % 2) (rest h l)
    ∙ mod-mod-pow (w / 2 ^ h) (15 - h) 1)

pub rank-none : rank 0 ≡ 0
unfolding rank
rank-none = refl

pub rank-some : (w : ℕ) → (w ≡ 0 → ⊥) → rank w ≡ num w + 1
unfolding rank
rank-some w h = simp (ne_eqb w 0 h)

pub none_or_some : (w : ℕ) → (w ≡ 0) ⊎ (rank w ≡ num w + 1)
none_or_some w = ⊎_elim (λ z. inl z) (λ p. inr (rank-some w (λ z. lt_irrefl 0 (omega arith)))) (eq-zero-or-pos w)

-- ranks order as numbers do
pub rank-le-num : (a b : ℕ) → rank a ≤ rank b → num a ≤ num b
rank-le-num a b h = go (none_or_some a) (none_or_some b)
  where
    go : (a ≡ 0) ⊎ (rank a ≡ num a + 1) → (b ≡ 0) ⊎ (rank b ≡ num b + 1) → num a ≤ num b
    go (inl e) f = rw e (omega arith)
    go (inr e) (inl f) = absurd (let z : rank b ≡ 0 = ap rank f ∙ rank-none in lt_irrefl 0 (omega arith))
    go (inr e) (inr f) = omega arith

-- ---- the highest-numbered session of a table

-- one more: it wins where it ranks higher, and changes nothing otherwise
highest-step : (n : ℕ) (f : ℕ → ℕ)
    → ((rank (highest_of n f) < rank (f n)) × (highest_of (suc n) f ≡ f n)) ⊎ ((rank (f n) ≤ rank (highest_of n f)) × (highest_of (suc n) f ≡ highest_of n f))
unfolding highest_of fold_below
highest-step n f =
    ⊎_elim
    (λ a. inl (a, simp (lt-ltb (rank (highest_of n f)) (rank (f n)) a)))
    (λ b. inr (b, simp (le-ltb (rank (highest_of n f)) (rank (f n)) b)))
    (lt-or-ge (rank (highest_of n f)) (rank (f n)))

-- none ranks higher
pub highest-each : (n : ℕ) (f : ℕ → ℕ) (i : ℕ) → i < n → rank (f i) ≤ rank (highest_of n f)
highest-each zero f i h = absurd (not-suc-le-zero h)
highest-each (suc n) f i h =
    ⊎_elim
    (λ a. rw a.1 (⊎_elim (λ e. rw e (le_refl (rank (f n)))) (λ l. omega (arith, highest-each n f i l)) (below_suc h)))
    (λ b. rw b.1 (⊎_elim (λ e. rw e b.0) (λ l. highest-each n f i l) (below_suc h)))
    (highest-step n f)

-- it is none, or one of them, and then none before it ranks as high
pub highest-from : (n : ℕ) (f : ℕ → ℕ)
    → (highest_of n f ≡ 0) ⊎ ((i : ℕ) × (i < n) × (highest_of n f ≡ f i) × ((j : ℕ) → j < i → rank (f j) < rank (f i)))
unfolding highest_of fold_below
highest-from zero f = inl refl
highest-from (suc n) f =
    ⊎_elim
    (λ a. inr (n, le_refl (suc n), a.1, λ j l. omega (arith, highest-each n f j l, a.0)))
    (λ b. ⊎_elim
    (λ z. inl (b.1 ∙ z))
    (λ (i, l, e, first). inr (i, le_trans l (le-suc n), b.1 ∙ e, first))
    (highest-from n f))
    (highest-step n f)

-- ---- a session word is sound and numbered within the limits

pub word_sound : (w : ℕ) → session_word w ≡ true → sound w ≡ true
unfolding session_word
word_sound w e = and_left (sound w) _ e

pub word_number : (w : ℕ) → session_word w ≡ true → num w ≤ 4294967295
unfolding session_word
word_number w e = omega (arith, ltb-true w 281474976710656 (and_right (sound w) _ e))
