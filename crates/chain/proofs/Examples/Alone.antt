-- A world by words: head 0 is the core group and every view (W0 = 0001, Q 1). It enters view 1, attempts (0001, 1) and forms it, and the theorem
-- gives the list of the formed sessions in order.
use mathlib.Core.Path.{◌≡◌, refl, sym, ◌∙◌}
use mathlib.Core.Logic.{◌⊎◌, inl, inr, ◌≢◌, ⊎_elim}
use mathlib.Core.List.{List, [], ◌∷◌}
use Prim.Native.Nat.{ℕ, zero, suc, ◌<◌}
use native.Mathlib.Nat.{le_refl}
use native.Mathlib.Omega.{arith}
use lib.Dec.{lit<}
use borrow.Author.Tests.{eqb-true}
use Rattle.loops.specs.Below.{fold_below, count_below, last_below}
use Rattle.loops.proofs.Laws.Truth.{not-both}
use Rattle.group.specs.Heads.{has, size, empty, common, shared, highest, only}
use Rattle.group.specs.Quorum.{enough, majority, tied, blocking, passes, is_group}
use Rattle.group.specs.Words.{rank}
use Rattle.group.proofs.Laws.Heads.{has-only, has-none}
use Rattle.chain.specs.Model.{Sess, Group}
use Rattle.chain.specs.Words.{Rec, Said, Is, Fresh, Enters, Attempts, Forms}
use Rattle.chain.specs.World.{Phase, undecided, trying, primary, Session, Vol, gone, live, World, Frame, Quiet, Reached, begins, does, turn, enters, attempts, forms}
use Rattle.chain.specs.Quorum.{group_of}
use Rattle.chain.specs.Safety.{Has, here, there, Lists, Linked, insert, in_order, Safe}
use Rattle.chain.proofs.Laws.Safety.{safe-highest}

abbrev solo : Group
solo = group_of highest 1 1 (λ v. 1)

-- ---- who is in 0001

zero_in : solo.In 0 1
unfolding group_of has
zero_in = (lit< tt, refl)

only_zero : (x : ℕ) → solo.In x 1 → x ≡ 0
unfolding group_of only
only_zero x (l, e) = sym (eqb-true 0 x (sym (has-only 0 x) ∙ e))

no-mark : (x : ℕ) → ¬ (solo.In x 0)
unfolding group_of
no-mark x (l, e) = not-both (has 0 x) e (has-none x)

passes-itself : solo.passes 1 1
unfolding group_of passes enough majority tied blocking shared size empty common highest has count_below last_below fold_below
passes-itself = refl

-- ---- worlds

-- w for head or place 0, and 0 for others
abbrev for-0 : ℕ → ℕ → ℕ
for-0 w zero = w
for-0 w (suc x) = 0

-- view, number, last primary, and the word in place 0
abbrev rec : ℕ → ℕ → ℕ → ℕ → Rec
rec v n p s = record { view = v; num = n; prim = p; formed = for-0 p; place = for-0 s; mark = λ i. 0 }

-- head 0 has record r and session v; the others are fresh
abbrev world : Rec → Vol → (Sess → Type 0) → World
world r v P = record {
  rec = λ x. elim x [ zero ↦ r | suc y ↦ rec 0 0 0 0 ];
  vol = λ x. elim x [ zero ↦ v | suc y ↦ gone ];
  state = λ v x s. ⊥;
  attempt = λ v x. ⊥;
  formed = P;
}

framed : {r r' : Rec} {v v' : Vol} {P Q : Sess → Type 0} → Frame 0 (world r v P) (world r' v' Q)
framed {r} {r'} {v} {v'} {P} {Q} = record { rec = same-rec; vol = same-vol }
  where
    same-rec : (q : ℕ) → q ≢ 0 → (world r' v' Q).rec q ≡ (world r v P).rec q
    same-rec zero n = absurd (n refl)
    same-rec (suc q) n = refl

    same-vol : (q : ℕ) → q ≢ 0 → (world r' v' Q).vol q ≡ (world r v P).vol q
    same-vol zero n = absurd (n refl)
    same-vol (suc q) n = refl

quiet : {r r' : Rec} {v v' : Vol} {P Q : Sess → Type 0} → Quiet (world r v P) (world r' v' Q)
quiet = record { state = λ u x s w. w; attempt = λ u x w. w }

-- ---- the start

abbrev core : Sess
core = record { heads = 1; number = 0 }

core-word : Is 1 1 0
core-word = record { some = omega arith; set = refl; number = refl }

abbrev w₀ : World
w₀ = world (rec 0 0 1 0) gone (λ F. F ≡ core)

free : (i : ℕ) → for-0 0 i ≡ 0
free zero = refl
free (suc i) = refl

fresh : (x : ℕ) → Fresh solo x (w₀.rec x)
unfolding group_of
fresh zero = record { view = refl; num = refl; prim = inr (core-word, zero_in); formed = formed; place = λ i h. free i }
  where
    formed : (x : ℕ) → (for-0 1 x ≡ 0) ⊎ (Is (for-0 1 x) 1 0 × Is 1 1 0 × solo.In x 1)
    formed zero = inr (core-word, core-word, zero_in)
    formed (suc x) = inl refl
fresh (suc y) = record { view = refl; num = refl; prim = inl refl; formed = λ x. inl (free x); place = λ i h. free i }

k₀ : Reached solo w₀
unfolding group_of
k₀ = begins record { fresh = fresh; vol = vol; state = λ v x s w. w; attempt = λ v x w. w; formed = λ F w. w; core = refl }
  where
    vol : (x : ℕ) → w₀.vol x ≡ gone
    vol zero = refl
    vol (suc x) = refl

-- ---- enter view 1

-- what head 0 says of itself before the attempt
abbrev own : Said
own = record { num = 0; prim = 1; formed = for-0 1; place = for-0 0 }

abbrev session : Phase → Session
session f = record { phase = f; said = λ x. own; states = λ x. ⊥; attempts = λ x. ⊥ }

abbrev w₁ : World
w₁ = world (rec 1 0 1 0) (live (session undecided)) (λ F. F ≡ core)

entered : Enters solo 0 1 (rec 0 0 1 0) (rec 1 0 1 0)
unfolding group_of
entered = record {
  above = omega arith;
  mine = zero_in;
  view = refl;
  stay = record { num = refl; prim = refl; formed = λ x. refl };
  keeps = λ i h. (refl, refl);
}

k₁ : Reached solo w₁
k₁ =
    does 0 k₀ (turn framed quiet (record { formed = λ F w. w; kept = λ F w. w })
    (enters 1 (session undecided) entered refl refl (λ x w. w) (λ x w. w)))

-- ---- attempt (0001, 1), whose word is 65537

abbrev w₂ : World
w₂ = world (rec 1 1 1 65537) (live (session trying)) (λ F. F ≡ core)

attempted : Attempts solo 0 (λ x. own) (rec 1 0 1 0) (rec 1 1 1 65537)
unfolding group_of rank
attempted = record {
  number = 1;
  high = λ x i. omega arith;
  tight = (0, zero_in, refl);
  best = 1;
  best-some = omega arith;
  best-from = (0, zero_in, refl);
  best-top = λ x i. le_refl _;
  pass = passes-itself;
  weigh = λ x i m h l. absurd (unlisted i l);
  at = 0;
  at_place = omega arith;
  was = refl;
  put = record { some = omega arith; set = refl; number = refl };
  bare = no-mark;
  rest = rest;
  view = refl;
  num = refl;
  prim = refl;
  formed = λ x. refl;
}
  where
    unlisted : (i : ℕ) → rank 1 < rank (for-0 0 i) → ⊥
    unlisted zero l = omega arith
    unlisted (suc i) l = omega arith

    rest : (i : ℕ) → i < 16 → i ≢ 0 → (for-0 65537 i ≡ for-0 0 i) × (◌≡◌ {A = ℕ} 0 0)
    rest zero h n = absurd (n refl)
    rest (suc i) h n = (refl, refl)

k₂ : Reached solo w₂
unfolding group_of
k₂ =
    does 0 k₁ (turn framed quiet (record { formed = λ F w. w; kept = λ F w. w })
    (attempts (session undecided) (session trying) (λ x. own)
    (record { session = refl; phase = inl refl; all = λ x i n. absurd (n (only_zero x i)) })
    (λ x n. refl) (record { num = refl; prim = refl; formed = λ x. refl; lists = λ w n l. l }) attempted refl refl
    (record { said = λ x. refl; states = λ x w. w; attempts = λ x w. w })))

-- ---- form it

abbrev one : Sess
one = record { heads = 1; number = 1 }

abbrev Counted : Sess → Type 0
Counted F = (F ≡ one) ⊎ (F ≡ core)

abbrev w₃ : World
w₃ = world (rec 1 1 65537 0) (live (session primary)) Counted

formed : Forms solo (rec 1 1 1 65537) (rec 1 1 65537 0)
unfolding group_of
formed = record {
  word = 65537;
  is = record { some = omega arith; set = refl; number = refl };
  view = refl;
  num = refl;
  prim = refl;
  formed = last;
  place = λ i h. free i;
}
  where
    last : (x : ℕ) → ((for-0 65537 x ≡ 65537) × solo.In x 1) ⊎ ((for-0 65537 x ≡ for-0 1 x) × ¬ (solo.In x 1))
    last zero = inl (refl, zero_in)
    last (suc x) = inr (refl, λ i. omega (arith, only_zero (suc x) i))

k₃ : Reached solo w₃
unfolding group_of
k₃ =
    does 0 k₂ (forms (session trying) framed quiet refl refl (λ x i n. absurd (n (only_zero x i))) formed (λ F w. w) (λ F w. inr w) (inl refl)
    (inr (session primary, refl, refl, record { said = λ x. refl; states = λ x w. w; attempts = λ x w. w })))

-- ---- the count

in_order-is : in_order (one ∷ core ∷ []) ≡ core ∷ one ∷ []
unfolding in_order insert
in_order-is = refl

one-count : (rest : List Sess) × (in_order (one ∷ core ∷ []) ≡ core ∷ rest) × Linked solo core rest
unfolding group_of is_group empty size has count_below fold_below
one-count =
    let s : Safe solo Counted = safe-highest 1 1 (λ v. 1) refl k₃ in
    let (r, l) = s.order (one ∷ core ∷ []) lists in
    s.list (in_order (one ∷ core ∷ [])) r l
  where
    sound : (F : Sess) → Has F (one ∷ core ∷ []) → Counted F
    sound F (here e) = inl e
    sound F (there (here e)) = inr e
    sound F (there (there w)) = absurd (elim w [ ])

    lists : Lists Counted (one ∷ core ∷ [])
    lists = record { sound = sound; complete = λ F. ⊎_elim here (λ e. there (here e)) }
