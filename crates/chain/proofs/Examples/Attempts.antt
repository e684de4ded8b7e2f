-- "Claiming the chain for attempts. Only formed sessions have it." Both heads enter view 1, and 0 attempts (0003, 1). Head 1 goes on to view 4, where it
-- is alone: half of W0 and its highest head, so it attempts (0002, 1). Two sessions of one number.
use mathlib.Core.Path.{◌≡◌, refl, sym, ap, ◌∙◌}
use mathlib.Core.Logic.{◌⊎◌, inl, inr}
use Prim.Native.Nat.{ℕ}
use native.Mathlib.Omega.{arith}
use lib.Dec.{lit<}
use borrow.Author.Tests.{eqb-true}
use Rattle.loops.specs.Below.{fold_below, count_below, last_below}
use Rattle.group.specs.Heads.{has, size, empty, common, shared, highest, only as one-head}
use Rattle.group.specs.Quorum.{enough, majority, tied, blocking, passes}
use Rattle.group.proofs.Laws.Heads.{has-only}
use Rattle.chain.specs.Model.{Sess, real, Local, enter, attempt}
use Rattle.chain.specs.Reach.{Hist, start, more, now, Sent, sent, Tried, tried-now, tried-before, Valid, begin, step}
use Rattle.chain.specs.Quorum.{group_of}
use Rattle.chain.specs.Safety.{Safe}
use Rattle.chain.proofs.Examples.Pair.{pair, zero_in, one_in, both, both-pass, sess-of, loc, Nowhere, Only, Unmarked, fresh, fresh-init, entering, attempting}

abbrev in-1 : Local
in-1 = loc 1 0 0 (real (sess-of 3 0)) Nowhere Unmarked

abbrev in-4 : Local
in-4 = loc 4 0 0 (real (sess-of 3 0)) Nowhere Unmarked

-- ---- head 1 alone

one-alone : pair.In 1 2
unfolding group_of has
one-alone = (lit< tt, refl)

alone : (x : ℕ) → pair.In x 2 → x ≡ 1
unfolding group_of one-head
alone x (l, e) = sym (eqb-true 1 x (sym (has-only 1 x) ∙ e))

one_passes : pair.passes 3 2
unfolding group_of passes enough majority tied blocking shared size empty common highest has count_below last_below fold_below
one_passes = refl

-- ---- the history

abbrev h₁ : Hist
h₁ = more (more (start fresh) 0 (enter 1) in-1) 1 (enter 1) in-1

abbrev h₂ : Hist
h₂ = more h₁ 0 (attempt (sess-of 3 1)) (loc 1 1 1 (real (sess-of 3 0)) (Only (sess-of 3 1)) Unmarked)

abbrev h₃ : Hist
h₃ = more (more h₂ 1 (enter 4) in-4) 1 (attempt (sess-of 2 1)) (loc 4 1 4 (real (sess-of 3 0)) (Only (sess-of 2 1)) Unmarked)

valid : Valid pair h₃
unfolding now group_of
valid =
    step (step (step (step (step (begin fresh-init)
    (entering _ _ 0 0 1 0 0 (real (sess-of 3 0)) Nowhere (omega arith) zero_in))
    (entering _ _ 1 0 1 0 0 (real (sess-of 3 0)) Nowhere (omega arith) one_in))
    (attempting _ _ 0 1 0 0 3 (sess-of 3 0) (omega arith) refl zero_in both-pass (both (λ x. (x ≡ 0) ⊎ Sent h₁ x 1 in-1) (inl refl) (inr sent))))
    (entering _ _ 1 1 4 0 0 (real (sess-of 3 0)) Nowhere (omega arith) one-alone))
    (attempting _ _ 1 4 0 0 2 (sess-of 3 0) (omega arith) refl one-alone one_passes (λ x i. inl (alone x i)))

-- ---- attempts are not safe

attempts-unsafe : (H : Hist) × Valid pair H × (Safe pair (Tried pair H) → ⊥)
attempts-unsafe = (h₃, valid, λ s. two (s.unique (sess-of 3 1) (sess-of 2 1) (tried-before (tried-before tried-now)) tried-now refl))
  where
    two : sess-of 3 1 ≡ sess-of 2 1 → ⊥
    two e = let z : ◌≡◌ {A = ℕ} 3 2 = ap (λ (S : Sess). S.heads) e in omega arith
