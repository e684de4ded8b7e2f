-- The views announced: a view's heads stay while more views are announced, since the first of its number counts; and the number of views up to a view rises with it,
-- strictly where that view has a member, since then it was announced.
use mathlib.Core.Bool.{Bool, true, false}
use mathlib.Core.List.{List, [], ◌∷◌, ◌++◌}
use mathlib.Core.Logic.{⊎_elim}
use mathlib.Core.Path.{◌≡◌, ap, ◌∙◌}
use Prim.Native.Nat.{ℕ, zero, suc, ◌+◌, ◌≤◌, ◌<◌}
use native.Mathlib.Omega.{arith}
use borrow.Author.Tests.{ltb-true, eqb-true, le-leb, lt-leb}
use lib.Dec.{eqb, leb}
use lib.ListN.{length, get_or, length-append, get_or-append, get_or-eq_default}
use Rattle.loops.specs.Below.{bit}
use Rattle.loops.proofs.Laws.First.{first-is, first_passes, first-before}
use Rattle.loops.proofs.Laws.Order.{lt-or-ge}
use Rattle.loops.proofs.Laws.Truth.{not-both}
use Rattle.group.specs.Heads.{has}
use Rattle.group.specs.Words.{heads, num}
use Rattle.group.proofs.Laws.Heads.{has-none}
use Rattle.views.specs.Views.{view_index, announced, members_of}

-- ---- more views

module _ (v : ℕ) (views more : List ℕ) (known : announced v views ≡ true) where
  index_in : view_index v views < length views
  unfolding announced
  index_in = ltb-true _ _ known

  index_stays : view_index v (views ++ more) ≡ view_index v views
  unfolding view_index
  index_stays =
      first-is (length (views ++ more)) (λ i. eqb (num (get_or (views ++ more) i 0)) v) (view_index v views)
      (omega (arith, index_in, length-append views more))
      (ap (λ (w : ℕ). eqb (num w) v) (get_or-append views more 0 (view_index v views) index_in) ∙ first_passes (length views) (λ i. eqb (num (get_or views i 0)) v) index_in)
      (λ j l. ap (λ (w : ℕ). eqb (num w) v) (get_or-append views more 0 j (omega (arith, index_in))) ∙ first-before (length views) (λ i. eqb (num (get_or views i 0)) v) j l)

  pub members-stay : members_of v (views ++ more) ≡ members_of v views
  unfolding members_of
  members-stay = ap (λ (i : ℕ). heads (get_or (views ++ more) i 0)) index_stays ∙ ap heads (get_or-append views more 0 (view_index v views) index_in)

-- a view with a member was announced
member-known : (v x : ℕ) (views : List ℕ) → has (members_of v views) x ≡ true → view_index v views < length views
unfolding members_of
member-known v x views e =
    ⊎_elim (λ l. l)
    (λ g. absurd (not-both _ e (ap (λ (w : ℕ). has (heads w) x) (get_or-eq_default views 0 g) ∙ has-none x)))
    (lt-or-ge (view_index v views) (length views))

index_is : (v : ℕ) (views : List ℕ) → view_index v views < length views → num (get_or views (view_index v views) 0) ≡ v
unfolding view_index
index_is v views l = eqb-true _ _ (first_passes (length views) (λ i. eqb (num (get_or views i 0)) v) l)

-- ---- how many views have a number up to v

pub up_to : ℕ → List ℕ → ℕ
up_to v [] = 0
up_to v (w ∷ L) = up_to v L + bit (leb (num w) v)

one-rises : (a u v : ℕ) → u ≤ v → bit (leb a u) ≤ bit (leb a v)
one-rises a u v h =
    ⊎_elim (λ l. rw (lt-leb a u l) (omega arith)) (λ g. rw (le-leb a u g, le-leb a v (omega arith)) (omega arith)) (lt-or-ge u a)

up-rises : (u v : ℕ) (L : List ℕ) → u ≤ v → up_to u L ≤ up_to v L
unfolding up_to
up-rises u v [] h = omega arith
up-rises u v (w ∷ L) h = omega (arith, up-rises u v L h, one-rises (num w) u v h)

up-counts : (u v i : ℕ) (L : List ℕ) → u < v → i < length L → num (get_or L i 0) ≡ v → up_to u L < up_to v L
unfolding up_to
up-counts u v i [] h l e = absurd (omega arith)
up-counts u v zero (w ∷ L) h l e =
    let a : bit (leb (num w) u) ≡ 0 = rw (lt-leb (num w) u (omega (arith, e))) in
    let b : bit (leb (num w) v) ≡ 1 = rw (le-leb (num w) v (omega (arith, e))) in
    omega (arith, a, b, up-rises u v L (omega arith))
up-counts u v (suc i) (w ∷ L) h l e = omega (arith, up-counts u v i L h (omega arith) e, one-rises (num w) u v (omega arith))

pub up-few : (v : ℕ) (L : List ℕ) → up_to v L ≤ length L
unfolding up_to
up-few v [] = omega arith
up-few v (w ∷ L) = omega (arith, up-few v L, one (leb (num w) v))
  where
    one : (b : Bool) → bit b ≤ 1
    one true = omega arith
    one false = omega arith

pub member-counts : (u v x : ℕ) (views : List ℕ) → u < v → has (members_of v views) x ≡ true → up_to u views < up_to v views
member-counts u v x views l e =
    let k = member-known v x views e in
    up-counts u v (view_index v views) views l k (index_is v views k)
