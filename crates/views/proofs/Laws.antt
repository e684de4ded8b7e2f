-- The search of a view, what an event asks by it, and the list.
use mathlib.Core.Bool.{Bool, cond, ◌&&◌, true, false, not}
use mathlib.Core.Logic.{◌⊎◌}
use mathlib.Core.List.{List}
use mathlib.Core.Path.{◌≡◌, refl, sym, ap, ◌∙◌}
use Prim.Native.Nat.{ℕ, ◌≤◌, ◌<◌}
use native.Mathlib.Omega.{arith}
use borrow.Author.Tests.{lt-ltb, le-ltb, ltb-true}
use lib.Dec.{eqb, ltb}
use lib.ListN.{length, get_or}
use Rattle.std.proofs.Common.{Some, None, inl, inr}
use Rattle.std.specs.List.{find, position_or_len, slice_get}
use Rattle.std.proofs.lemmas.List.Folds.{find_at}
use Rattle.std.proofs.lemmas.List.Sums.{position_or_len_is}
use Rattle.std.proofs.lemmas.Option.{slice_get_within, slice_get-get_or, get_or_from_slice_get}
use Rattle.loops.specs.Below.{first_below}
use Rattle.loops.proofs.Laws.Order.{lt-or-ge}
use Rattle.loops.proofs.Laws.First.{first-le, first-before, first_passes}
use Rattle.loops.proofs.Laws.Truth.{and_right}
use Rattle.group.specs.Words.{heads, num}
use Rattle.deeds.specs.declared.What.TheVariants as what
use Rattle.views.specs.Views.{view_what, view_index, announced, members_of}

-- ---- the search

module _ (v : ℕ) (views : List ℕ) where
  abbrev is_v : ℕ → Bool
  is_v view = eqb (num view) v

  first : position_or_len is_v views ≡ view_index v views
  unfolding view_index
  first =
      let n = length views in
      let q : ℕ → Bool = λ i. eqb (num (get_or views i 0)) v in
      position_or_len_is is_v views (first_below n q) 0 (first-le n q) (first-before n q) (first_passes n q)

  found : find is_v views ≡ slice_get views (view_index v views)
  found = find_at is_v views ∙ ap (slice_get views) first

  pub known : (w : ℕ) → find is_v views ≡ Some w → (announced v views ≡ true) × (members_of v views ≡ heads w)
  unfolding announced members_of
  known w e =
      let at : slice_get views (view_index v views) ≡ Some w = sym found ∙ e in
      (lt-ltb (view_index v views) (length views) (slice_get_within views (view_index v views) w at), ap heads (get_or_from_slice_get views (view_index v views) w 0 at))

  pub unknown : find is_v views ≡ None → announced v views ≡ false
  unfolding announced
  unknown e = le-ltb (view_index v views) (length views) (none_past (lt-or-ge (view_index v views) (length views)))
    where
      none_past : (view_index v views < length views) ⊎ (length views ≤ view_index v views) → length views ≤ view_index v views
      none_past (inl h) = let z : ⊥ = cc (found, e, slice_get-get_or views (view_index v views) 0 h) in absurd z
      none_past (inr h) = h

pub known_refused : (g : Bool) (v m w : ℕ) (views : List ℕ) → find (is_v v views) views ≡ Some w → view_what g views v m ≡ what.Refuse 14
unfolding view_what
known_refused true v m w views e = rw (known v views w e).0
known_refused false v m w views e = refl

-- ---- a view is announced only where there is room

pub room_of : (g : Bool) (views : List ℕ) (v m : ℕ) (a b : ℕ) → view_what g views v m ≡ what.Announce a b → length views < 1000
unfolding view_what
room_of g views v m a b e = go (g && not (announced v views) && ltb (length views) 1000) refl e
  where
    go : (t : Bool) → (g && not (announced v views) && ltb (length views) 1000) ≡ t → cond t (what.Announce v m) (what.Refuse 14) ≡ what.Announce a b → length views < 1000
    go true p q = ltb-true (length views) 1000 (and_right (g && not (announced v views)) (ltb (length views) 1000) p)
    go false p q = let z : ◌≡◌ {A = ℕ} 0 1 = cc in absurd (omega (arith, z))
