-- The list of formed sessions: over a history it has at most 1,001, since its numbers rise and none is above the number of views; so a session is always put in its place.
use mathlib.Core.Bool.{Bool, true, false, cond}
use mathlib.Core.List.{List, [], ◌∷◌, Memᴰ}
use mathlib.Core.Logic.{◌⊎◌, inl, inr, ⊎_elim}
use mathlib.Core.Path.{◌≡◌, refl, sym, ap, subst, ◌∙◌}
use Prim.Native.Nat.{ℕ, suc, ◌+◌, ◌≤◌}
use native.Mathlib.Omega.{arith}
use borrow.Author.Tests.{ne_eqb, lt-ltb, le-ltb}
use lib.Dec.{eqb, ltb}
use lib.ListN.{length}
use Rattle.loops.proofs.Laws.Order.{lt-or-ge}
use Rattle.group.specs.Words.{num}
use Rattle.history.specs.Setting.{Setting}
use Rattle.history.specs.Statement.{World, History, in_order, Linked, last, link, insert as put}
use Rattle.history.proofs.Abstraction.{group_in}
use Rattle.history.proofs.Invariant.{reading}
use Rattle.history.proofs.Calls.Start.{core-some}
use Rattle.history.proofs.Theorem.{one-count-proved, one-count-listed-proved}
use Rattle.history.proofs.Counted.{formed-bounded}
use Rattle.views.specs.Views.{members_of}
use Rattle.formed.specs.Formed.{insert, noted}
use Rattle.printed.proofs.Views.{up_to, up-few, member-counts}

-- ---- a session more

-- the bench's list and the history's are kept in one way
pub same-put : (w : ℕ) (L : List ℕ) → insert w L ≡ put w L
unfolding insert put
same-put w [] = refl
same-put w (v ∷ L) = ap (λ (M : List ℕ). cond (ltb (num w) (num v)) (w ∷ v ∷ L) (cond (eqb (num w) (num v)) (v ∷ L) (v ∷ M))) (same-put w L)

put-cases : (w : ℕ) (L : List ℕ) → (put w L ≡ L) ⊎ (length (put w L) ≡ suc (length L))
unfolding put
put-cases w [] = inr refl
put-cases w (v ∷ L) = go (ltb (num w) (num v)) (eqb (num w) (num v)) (put-cases w L)
  where
    go : (a b : Bool) → (put w L ≡ L) ⊎ (length (put w L) ≡ suc (length L))
        → (cond a (w ∷ v ∷ L) (cond b (v ∷ L) (v ∷ put w L)) ≡ v ∷ L) ⊎ (length (cond a (w ∷ v ∷ L) (cond b (v ∷ L) (v ∷ put w L))) ≡ suc (suc (length L)))
    go true b k = inr refl
    go false true k = inl refl
    go false false (inl e) = inl (ap (λ (M : List ℕ). v ∷ M) e)
    go false false (inr e) = inr (ap suc e)

pub noted-none : (L : List ℕ) → noted 0 L ≡ L
unfolding noted
noted-none L = refl

pub noted-put : (w : ℕ) (L : List ℕ) → (w ≡ 0 → ⊥) → length (put w L) ≤ 1001 → noted w L ≡ put w L
unfolding noted
noted-put w L n h =
    rw (ne_eqb w 0 n)
    (⊎_elim
    (λ l. ap (λ (b : Bool). cond b (insert w L) L) (lt-ltb (length L) 1001 l) ∙ same-put w L)
    (λ g. ap (λ (b : Bool). cond b (insert w L) L) (le-ltb (length L) 1001 g) ∙ ⊎_elim (λ e. sym e) (λ e. absurd (omega (arith, e, h, g))) (put-cases w L))
    (lt-or-ge (length L) 1001))

-- ---- how many

linked-few : (n w : ℕ) (L : List ℕ) → Linked w L → ((x : ℕ) → Memᴰ x (w ∷ L) → num x ≤ n) → num w + length L ≤ n
linked-few n w _ last f = omega (arith, f w (Memᴰ.head refl))
linked-few n w _ (link {v = v} {L = L} l s k) f = omega (arith, linked-few n v L k (λ x d. f x (Memᴰ.tail d)))

module _ (S : Setting) (views : List ℕ) (is : (v : ℕ) → S.members v ≡ members_of v views) where
  number-low : (W : World) → History S W → (w : ℕ) → Memᴰ w W.formed → num w ≤ length views
  number-low W h w d =
      let (v, l) = formed-bounded S (λ u. up_to u views) (λ u v x l i e. member-counts u v x views l (rw (is v) at e)) W h w d in
      omega (arith, up-few v views)

  pub formed-few : (W : World) → History S W → length (in_order W.formed) ≤ suc (length views)
  formed-few W h =
      let o = one-count-listed-proved S W h in
      let all : (x : ℕ) → Memᴰ x (S.core ∷ o.rest) → num x ≤ length views =
      λ x d. number-low W h x (o.sound x (subst (λ (L : List ℕ). Memᴰ x L) (sym o.starts) d)) in
      omega (arith, ap length o.starts, linked-few (length views) S.core o.rest o.linked all)

  pub formed-fit : length views ≤ 1000 → (W : World) → History S W → length (in_order W.formed) ≤ 1001
  formed-fit short W h = omega (arith, formed-few W h)

-- none is no formed session: the core group's has number 0
pub formed-some : (S : Setting) (W : World) → History S W → Memᴰ 0 W.formed → ⊥
formed-some S W h d =
    let o = one-count-proved S W h in
    core-some S (group_in S) (reading S) (o.unique S.core 0 o.first d (omega (arith, S.core-set)))
