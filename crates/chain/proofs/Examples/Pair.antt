-- What the example histories share: heads 0 and 1 are the core group (W0 = 0003), Q is 1; views 1 to 3 are of both heads, later ones of head 1 alone.
use mathlib.Core.Path.{◌≡◌, refl, sym}
use mathlib.Core.Logic.{◌⊎◌, inl, inr, ⊎_elim}
use mathlib.Core.Bool.{cond}
use Prim.Native.Nat.{ℕ, zero, suc, ◌<◌}
use native.Mathlib.Nat.{le_refl}
use native.Mathlib.Omega.{arith}
use lib.Dec.{ltb, lit<}
use Rattle.loops.specs.Below.{fold_below, count_below, last_below}
use Rattle.loops.proofs.Laws.Truth.{not-both}
use Rattle.group.specs.Heads.{has, size, empty, common, shared, highest}
use Rattle.group.specs.Quorum.{enough, majority, tied, blocking, passes, is_group}
use Rattle.group.proofs.Laws.Heads.{has-high}
use Rattle.chain.specs.Model.{Sess, Maybe, none, real, Group, Lawful, core_sess, Local, enter, attempt, Init, Still, Ok}
use Rattle.chain.specs.Quorum.{group_of}
use Rattle.chain.proofs.Laws.Quorum.{highest-lawful}

abbrev pub pair : Group
pair = group_of highest 3 1 (λ v. cond (ltb v 4) 3 2)

pub pair-lawful : Lawful pair
unfolding is_group empty size has count_below fold_below
pair-lawful = highest-lawful 3 1 (λ v. cond (ltb v 4) 3 2) refl

-- ---- who is in 0003

pub zero_in : pair.In 0 3
unfolding group_of has
zero_in = (lit< tt, refl)

pub one_in : pair.In 1 3
unfolding group_of has
one_in = (lit< tt, refl)

pub none_above : (x : ℕ) → pair.In (suc (suc x)) 3 → ⊥
unfolding group_of
none_above x (l, e) = not-both (has 3 (suc (suc x))) e (has-high 2 3 (suc (suc x)) (lit< tt) (omega arith))

-- what holds of 0 and of 1 holds of all in it
pub both {ℓ} : (P : ℕ → Type ℓ) → P 0 → P 1 → (x : ℕ) → pair.In x 3 → P x
both P a b zero i = a
both P a b (suc zero) i = b
both P a b (suc (suc x)) i = absurd (none_above x i)

pub both-pass : pair.passes 3 3
unfolding group_of passes enough majority tied blocking shared size empty common highest has count_below last_below fold_below
both-pass = refl

-- ---- states

abbrev pub sess-of : ℕ → ℕ → Sess
sess-of s n = record { heads = s; number = n }

-- last formed: p for 0 and 1, none for others
abbrev pub last : ℕ → Maybe → Maybe
last zero p = p
last (suc zero) p = p
last (suc (suc x)) p = none

abbrev pub loc : ℕ → ℕ → ℕ → Maybe → (Sess → Type 0) → (Sess → ℕ → Type 0) → Local
loc v n t p s m = record { view = v; num = n; tried = t; prim = p; formed = λ x. last x p; places = s; marks = m }

abbrev pub Nowhere : Sess → Type 0
Nowhere S = ⊥

abbrev pub Only : Sess → Sess → Type 0
Only S T = T ≡ S

abbrev pub Unmarked : Sess → ℕ → Type 0
Unmarked S x = ⊥

-- last formed, where a session of 0 and 1 is formed or adopted
pub last-new : (p q : Maybe) (x : ℕ) → ((last x p ≡ p) × pair.In x 3) ⊎ ((last x p ≡ last x q) × ¬ (pair.In x 3))
last-new p q zero = inl (refl, zero_in)
last-new p q (suc zero) = inl (refl, one_in)
last-new p q (suc (suc x)) = inr (refl, none_above x)

-- ---- the start

abbrev pub fresh : ℕ → Local
fresh x = loc 0 0 0 (last x (real (core_sess pair))) Nowhere Unmarked

pub fresh-init : (h : ℕ) → Init pair h (fresh h)
unfolding group_of
fresh-init h = record { view = refl; num = refl; tried = refl; prim = prim h; formed = formed h; places = λ S p. p; marks = λ S x p. p }
  where
    core : Maybe
    core = real (sess-of 3 0)

    prim : (h : ℕ) → (last h core ≡ none) ⊎ ((last h core ≡ core) × pair.In h 3)
    prim zero = inr (refl, zero_in)
    prim (suc zero) = inr (refl, one_in)
    prim (suc (suc h)) = inl refl

    formed : (h x : ℕ) → (last x (last h core) ≡ none) ⊎ ((last x (last h core) ≡ core) × (last h core ≡ core) × pair.In x 3)
    formed h (suc (suc x)) = inl refl
    formed zero zero = inr (refl, refl, zero_in)
    formed zero (suc zero) = inr (refl, refl, one_in)
    formed (suc zero) zero = inr (refl, refl, zero_in)
    formed (suc zero) (suc zero) = inr (refl, refl, one_in)
    formed (suc (suc h)) zero = inl refl
    formed (suc (suc h)) (suc zero) = inl refl

-- ---- changes

pub unmoved : {v w n t : ℕ} {p : Maybe} {s s' : Sess → Type 0} {m m' : Sess → ℕ → Type 0} → Still (loc v n t p s m) (loc w n t p s' m')
unmoved = record { num = refl; tried = refl; prim = refl; formed = λ x. refl }

module _ (Snap : ℕ → ℕ → Local → Type 1) (Att : ℕ → ℕ → Type 1) (h : ℕ) where
  pub entering : (v w n t : ℕ) (p : Maybe) (s : Sess → Type 0) → v < w → pair.In h (pair.members w) → Ok pair Snap Att h (loc v n t p s Unmarked) (loc w n t p s Unmarked) (enter w)
  entering v w n t p s u i = record {
    up = u;
    mine = i;
    view = refl;
    still = unmoved;
    shrink = λ S q. q;
    keep = λ S q. q;
    marks = λ S x q. q;
  }

  -- with an empty table, where all members have the state that h has
  pub attempting : (v n t m : ℕ) (P : Sess) → t < v → pair.members v ≡ m → pair.In h m → pair.passes P.heads m
      → ((x : ℕ) → pair.In x m → (x ≡ h) ⊎ Snap x v (loc v n t (real P) Nowhere Unmarked))
      → Ok pair Snap Att h (loc v n t (real P) Nowhere Unmarked) (loc v (suc n) v (real P) (Only (sess-of m (suc n))) Unmarked) (attempt (sess-of m (suc n)))
  attempting v n t m P u e i pass f = record {
    early = u;
    heads = sym e;
    mine = i;
    hear = λ x j. record { state = loc v n t (real P) Nowhere Unmarked; why = ⊎_elim (λ a. inl (a, refl)) inr (f x j) };
    own = le_refl _;
    high = λ x j. le_refl _;
    tight = (h, i, refl);
    best = P;
    best-from = (h, i, refl);
    best-top = λ x j. le_refl _;
    pass = pass;
    weigh = λ x j F q. absurd q;
    view = refl;
    num = refl;
    tried = refl;
    prim = refl;
    formed = λ x. refl;
    grow = λ F q. inr q;
    keep = λ F q. absurd q;
    placed = refl;
    marks = λ F x q. q;
  }
