-- What a marks: a head that `adding` adds passes its test, so that a mark after a was there before or is of a head to mark, and the marks are still marks
-- that a whole record may have.
use mathlib.Core.Path.{◌≡◌, sym, ap, ◌∙◌}
use mathlib.Core.Bool.{Bool, true, false, not, cond, ◌&&◌, ◌||◌}
use mathlib.Core.Logic.{◌⊎◌, inl, inr, ⊎_elim}
use mathlib.Core.List.{List}
use Prim.Native.Nat.{ℕ, ◌-◌, ◌^◌, ◌<◌}
use native.Mathlib.Omega.{arith}
use lib.Dec.{eqb, ltb}
use lib.Bits.{bit_and, and_le_l, and_le_r}
use borrow.Author.Tests.{eqb-true, eqb-false, ne_eqb, ltb-true}
use Rattle.loops.proofs.Laws.Truth.{and_left, and_right, and_both, or_cases, passes-or-fails, not-true, or-false}
use Rattle.loops.proofs.Laws.Fold.{fold-keeps}
use Rattle.group.specs.Heads.{has, common, either, less, only, within}
use Rattle.group.specs.Words.{heads, rank}
use Rattle.group.proofs.Laws.Heads.{has_either, has-only, has-less, only-lt, either_lt, within-at, within_of}
use Rattle.group.proofs.Laws.Words.{has-heads}
use Rattle.record.specs.Layout.{own, place_at, marks_at}
use Rattle.record.specs.Whole.{marks_ok, marks_whole}
use Rattle.record.proofs.Laws.Layout.{own-small}
use Rattle.record.proofs.Laws.Whole.{Whole, marks-used}
use Rattle.state.specs.declared.Held.{Held}
use Rattle.plan.specs.Members.{other, formed_with}
use Rattle.plan.specs.Marks.{to_mark, adding, marked}
use Rattle.plan.proofs.Laws.Marks.{mark-none}

-- ---- the heads added

one_more : (b : Bool) (s h q : ℕ) → has (cond b (either s (only h)) s) q ≡ (has s q || (b && eqb h q))
one_more true s h q = has_either s (only h) q ∙ ap (λ (t : Bool). has s q || t) (has-only h q)
one_more false s h q = or-false (has s q)

module _ (p : ℕ → Bool) (s q : ℕ) where
  pub adding-from : has (adding p s) q ≡ true → (has s q ≡ true) ⊎ ((q < 16) × (p q ≡ true))
  unfolding adding
  adding-from =
      fold-keeps (λ (n : ℕ) (a : ℕ). has a q ≡ true → (has s q ≡ true) ⊎ ((q < n) × (p q ≡ true))) 16 _ s inl
      (λ i a h ih e.
      ⊎_elim (λ t. ⊎_elim inl (λ x. inr (omega (arith, x.0), x.1)) (ih t))
      (λ t.
      let same : i ≡ q = eqb-true i q (and_right (p i) (eqb i q) t) in
      inr (omega arith, ap p (sym same) ∙ and_left (p i) (eqb i q) t))
      (or_cases (has a q) (p i && eqb i q) (sym (one_more (p i) a i q) ∙ e)))

pub adding-lt : (p : ℕ → Bool) (s : ℕ) → s < 2 ^ 16 → adding p s < 2 ^ 16
unfolding adding
adding-lt p s b = fold-keeps (λ (n : ℕ) (a : ℕ). a < 2 ^ 16) 16 _ s b (λ i a h ih. smaller (p i) a i h ih)
  where
    smaller : (b : Bool) (a i : ℕ) → i < 16 → a < 2 ^ 16 → cond b (either a (only i)) a < 2 ^ 16
    smaller true a i h l = either_lt a (only i) l (only-lt i h)
    smaller false a i h l = l

-- ---- the heads to mark

pub record ToMark (m : ℕ) (held : Held) (r : List ℕ) (i q : ℕ) : Type 0 where
  pub in_place : has (place_at r i) q ≡ true
  pub is-other : other m r q ≡ true
  pub below : rank (formed_with held r q) < rank (place_at r i)

module _ (m : ℕ) (held : Held) (r : List ℕ) (i q : ℕ) where
  pub to-mark-parts : to_mark m held r i q ≡ true → ToMark m held r i q
  unfolding to_mark
  to-mark-parts e =
      let a = has (place_at r i) q in
      let b = other m r q in
      let c = ltb (rank (formed_with held r q)) (rank (place_at r i)) in
      let ab = and_left (a && b) c e in
      record { in_place = and_left a b ab; is-other = and_right a b ab; below = ltb-true _ _ (and_right (a && b) c e) }

  -- a mark after a was there before, or is one of a's
  pub marked_from : has (marked m held r i) q ≡ true → (has (marks_at r i) q ≡ true) ⊎ (ToMark m held r i q)
  unfolding marked
  marked_from e = ⊎_elim inl (λ x. inr (to-mark-parts x.1)) (adding-from (to_mark m held r i) (marks_at r i) q e)

marked-lt : (m : ℕ) (held : Held) (r : List ℕ) (i : ℕ) → marks_at r i < 2 ^ 16 → marked m held r i < 2 ^ 16
unfolding marked
marked-lt m held r i b = adding-lt (to_mark m held r i) (marks_at r i) b

pub other-member : (m : ℕ) (r : List ℕ) (q : ℕ) → other m r q ≡ true → has m q ≡ true
unfolding other
other-member m r q e = and_left (has m q) (not (eqb q (own r))) e

pub other-apart : (m : ℕ) (r : List ℕ) (q : ℕ) → other m r q ≡ true → q ≡ own r → ⊥
unfolding other
other-apart m r q e = eqb-false q (own r) (not-true (eqb q (own r)) (and_right (has m q) (not (eqb q (own r))) e))

-- ---- they are marks that a whole record may have

within-small : (s w p : ℕ) → within s (less (heads w) (only p)) ≡ true → s < 65536
unfolding within common less
within-small s w p e = omega (arith, and_le_r s (bit_and (heads w) (65535 - only p)), and_le_l (heads w) (65535 - only p), eqb-true (bit_and s (bit_and (heads w) (65535 - only p))) s e)

pub marked-ok : (m : ℕ) (held : Held) (r : List ℕ) → Whole r → (i : ℕ) → i < 16 → marks_ok (own r) (place_at r i) (marked m held r i) ≡ true
unfolding marks_whole
marked-ok m held r good i h = ⊎_elim free used (passes-or-fails (eqb (place_at r i) 0))
  where
    free : eqb (place_at r i) 0 ≡ true → marks_ok (own r) (place_at r i) (marked m held r i) ≡ true
    free z = ap (marks_ok (own r) (place_at r i)) (mark-none m held r i (eqb-true _ 0 z)) ∙ good.marks i h

    used : eqb (place_at r i) 0 ≡ false → marks_ok (own r) (place_at r i) (marked m held r i) ≡ true
    used z =
        let some = eqb-false (place_at r i) 0 z in
        let old : within (marks_at r i) (less (heads (place_at r i)) (only (own r))) ≡ true = sym (marks-used (own r) (place_at r i) (marks_at r i) some) ∙ good.marks i h in
        marks-used (own r) (place_at r i) (marked m held r i) some
        ∙ within_of (marked m held r i) (less (heads (place_at r i)) (only (own r))) (small old)
        (λ q l e. ⊎_elim (λ t. within-at (marks_at r i) _ old q t) (λ t. fresh q l t) (marked_from m held r i q e))
      where
        small : within (marks_at r i) (less (heads (place_at r i)) (only (own r))) ≡ true → marked m held r i < 2 ^ 16
        small old = marked-lt m held r i (within-small (marks_at r i) (place_at r i) (own r) old)

        fresh : (q : ℕ) → q < 16 → ToMark m held r i q → has (less (heads (place_at r i)) (only (own r))) q ≡ true
        fresh q l t =
            has-less (heads (place_at r i)) (only (own r)) q (only-lt (own r) (own-small r)) l
            ∙ and_both _ _ (has-heads (place_at r i) q l ∙ t.in_place)
            (ap not (has-only (own r) q ∙ ne_eqb (own r) q (λ e. other-apart m r q t.is-other (sym e))))
