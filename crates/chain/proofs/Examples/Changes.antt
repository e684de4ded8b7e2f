-- A history with every kind of change. Both heads attempt (0003, 1) and 0 forms it. In view 2, 1 adopts it and attempts (0003, 2) alone. In view 3,
-- 1 marks 0 in (0003, 2) and clears it; the state of 0 alone, which doesn't list it, would allow that too.
use mathlib.Core.Path.{◌≡◌, refl, sym, ap, subst}
use mathlib.Core.Logic.{◌⊎◌, inl, inr, ◌≢◌, ⊎_elim}
use Prim.Native.Nat.{ℕ}
use native.Mathlib.Omega.{arith}
use Rattle.chain.specs.Model.{Sess, real, rank_of, Meet, Local, tidy, enter, adopt, attempt, form}
use Rattle.chain.specs.Reach.{Hist, start, more, now, Sent, sent, sent-before, Attempted, attempted, attempted-before, Formed, formed-core, formed-now, formed-before, Valid, begin, step}
use Rattle.chain.specs.Quorum.{group_of}
use Rattle.chain.proofs.Laws.Attempts.{number_of}
use Rattle.chain.proofs.Laws.Reach.{safe-history}
use Rattle.chain.proofs.Examples.Pair.{pair, pair-lawful, zero_in, one_in, both, both-pass, sess-of, loc, Nowhere, Only, Unmarked, last-new, fresh, fresh-init, unmoved, entering, attempting}

-- (0003, n)
abbrev ses : ℕ → Sess
ses n = sess-of 3 n

-- ---- the states, by view

abbrev in-1 : Local
in-1 = loc 1 0 0 (real (ses 0)) Nowhere Unmarked

abbrev tried-1 : Local
tried-1 = loc 1 1 1 (real (ses 0)) (Only (ses 1)) Unmarked

abbrev formed-1 : Local
formed-1 = loc 1 1 1 (real (ses 1)) Nowhere Unmarked

abbrev in-2 : Local
in-2 = loc 2 1 1 (real (ses 1)) Nowhere Unmarked

abbrev behind-2 : Local
behind-2 = loc 2 1 1 (real (ses 0)) (Only (ses 1)) Unmarked

abbrev tried-2 : Local
tried-2 = loc 2 2 2 (real (ses 1)) (Only (ses 2)) Unmarked

abbrev in-3 : Local
in-3 = loc 3 1 1 (real (ses 1)) Nowhere Unmarked

abbrev late-3 : Local
late-3 = loc 3 2 2 (real (ses 1)) (Only (ses 2)) Unmarked

abbrev marked-3 : Local
marked-3 = loc 3 2 2 (real (ses 1)) (Only (ses 2)) (λ S x. (S ≡ ses 2) × (x ≡ 0))

abbrev clear-3 : Local
clear-3 = loc 3 2 2 (real (ses 1)) Nowhere Unmarked

-- ---- view 1: both attempt, 0 forms

abbrev h₁ : Hist
h₁ = more (more (start fresh) 0 (enter 1) in-1) 1 (enter 1) in-1

k₁ : Valid pair h₁
unfolding now group_of
k₁ =
    step (step (begin fresh-init) (entering _ _ 0 0 1 0 0 (real (ses 0)) Nowhere (omega arith) zero_in))
    (entering _ _ 1 0 1 0 0 (real (ses 0)) Nowhere (omega arith) one_in)

abbrev h₂ : Hist
h₂ = more (more h₁ 0 (attempt (ses 1)) tried-1) 1 (attempt (ses 1)) tried-1

k₂ : Valid pair h₂
unfolding now group_of
k₂ =
    step (step k₁ (attempting _ _ 0 1 0 0 3 (ses 0) (omega arith) refl zero_in both-pass (both (λ x. (x ≡ 0) ⊎ Sent h₁ x 1 in-1) (inl refl) (inr sent))))
    (attempting _ _ 1 1 0 0 3 (ses 0) (omega arith) refl one_in both-pass
    (both (λ x. (x ≡ 1) ⊎ Sent (more h₁ 0 (attempt (ses 1)) tried-1) x 1 in-1) (inr (sent-before (sent-before sent))) (inl refl)))

abbrev h₃ : Hist
h₃ = more h₂ 0 (form (ses 1)) formed-1

k₃ : Valid pair h₃
unfolding now group_of
k₃ = step {h = 0} {e = form (ses 1)} {l = formed-1} k₂ record {
  heads = refl;
  number = refl;
  mine = zero_in;
  all = both (λ x. Attempted h₂ x 1) (attempted-before (attempted refl)) (attempted refl);
  view = refl;
  num = refl;
  tried = refl;
  prim = refl;
  formed = last-new (real (ses 1)) (real (ses 0));
  shrink = λ F p. p;
  marks = λ F x p. p;
}

-- ---- view 2: 1 adopts, and attempts alone

abbrev h₄ : Hist
h₄ = more (more h₃ 0 (enter 2) in-2) 1 (enter 2) behind-2

k₄ : Valid pair h₄
unfolding now group_of
k₄ =
    step (step k₃ (entering _ _ 0 1 2 1 1 (real (ses 1)) Nowhere (omega arith) zero_in))
    (entering _ _ 1 1 2 1 1 (real (ses 0)) (Only (ses 1)) (omega arith) one_in)

abbrev h₅ : Hist
h₅ = more h₄ 1 (adopt (ses 1)) in-2

k₅ : Valid pair h₅
unfolding now group_of
k₅ = step {h = 1} {e = adopt (ses 1)} {l = in-2} k₄ record {
  early = omega arith;
  who = 0;
  member = zero_in;
  sent = in-2;
  snap = sent-before sent;
  told = refl;
  above = omega arith;
  view = refl;
  tried = refl;
  prim = refl;
  formed = λ x. ⊎_elim inl (λ (e, n). inr e) (last-new (real (ses 1)) (real (ses 0)) x);
  num-up = omega arith;
  num-low = omega arith;
  num-top = inl (omega arith);
  shrink = λ S p. absurd p;
  keep = λ S p. inr (omega (arith, number_of p));
  marks = λ S x p. p;
}

abbrev h₆ : Hist
h₆ = more h₅ 1 (attempt (ses 2)) tried-2

k₆ : Valid pair h₆
unfolding now group_of
k₆ =
    step k₅ (attempting _ _ 1 2 1 1 3 (ses 1) (omega arith) refl one_in both-pass
    (both (λ x. (x ≡ 1) ⊎ Sent h₅ x 2 in-2) (inr (sent-before (sent-before sent))) (inl refl)))

-- ---- view 3: 1 marks 0, and clears

abbrev h₇ : Hist
h₇ = more (more h₆ 0 (enter 3) in-3) 1 (enter 3) late-3

k₇ : Valid pair h₇
unfolding now group_of
k₇ =
    step (step k₆ (entering _ _ 0 2 3 1 1 (real (ses 1)) Nowhere (omega arith) zero_in))
    (entering _ _ 1 2 3 2 2 (real (ses 1)) (Only (ses 2)) (omega arith) one_in)

abbrev h₈ : Hist
h₈ = more h₇ 1 tidy marked-3

k₈ : Valid pair h₈
unfolding now group_of
k₈ = step {h = 1} {e = tidy} {l = marked-3} k₇ record {
  view = refl;
  still = unmoved;
  shrink = λ S p. p;
  keep = λ S p. inl p;
  marks = λ S x (p, z). inr record {
    listed = p;
    early = omega arith;
    sent = in-3;
    snap = subst (λ y. Sent h₇ y 3 in-3) (sym z) (sent-before sent);
    low = omega (arith, number_of p);
  };
}

abbrev h₉ : Hist
h₉ = more h₈ 1 tidy clear-3

-- by the marks
cleared-by-marks : Valid pair h₉
unfolding now group_of
cleared-by-marks = step {h = 1} {e = tidy} {l = clear-3} k₈ record {
  view = refl;
  still = unmoved;
  shrink = λ S p. absurd p;
  keep = λ S p. inr record { early = omega arith; why = inl (λ x i n. (p, marked S p x i n)) };
  marks = λ S x p. absurd p;
}
  where
    marked : (S : Sess) → S ≡ ses 2 → (x : ℕ) → pair.In x S.heads → x ≢ 1 → x ≡ 0
    marked S p x i n = both (λ y. y ≢ 1 → y ≡ 0) (λ m. refl) (λ m. absurd (m refl)) x (subst (λ (z : Sess). pair.In x z.heads) p i) n

-- by 0's state
cleared-by-denial : Valid pair h₉
unfolding now group_of
cleared-by-denial = step {h = 1} {e = tidy} {l = clear-3} k₈ record {
  view = refl;
  still = unmoved;
  shrink = λ S p. absurd p;
  keep = λ S p. inr record {
    early = omega arith;
    why = inr record {
      who = 0;
      member = subst (λ (z : Sess). pair.In 0 z.heads) (sym p) zero_in;
      sent = in-3;
      snap = sent-before (sent-before sent);
      unlisted = λ q. q;
      low = omega (arith, number_of p);
      other = λ q. omega (arith, ap rank_of q, number_of p);
    };
  };
  marks = λ S x p. absurd p;
}

-- ---- the theorem of it

formed-once : Formed pair h₉ (ses 1)
formed-once = formed-before (formed-before (formed-before (formed-before (formed-before (formed-before (formed-before (formed-before formed-now)))))))

shares-a-head : Meet pair 3 3
unfolding group_of
shares-a-head = (safe-history pair-lawful cleared-by-marks).chain (ses 0) (ses 1) formed-core formed-once (omega arith) (λ D d l m. omega arith)
