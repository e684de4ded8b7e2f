-- Laws of the clearings (c): each test taken apart into the facts that it says, but for `lists`, which is put together from them.
use mathlib.Core.Path.{◌≡◌, sym, ap, ◌∙◌}
use mathlib.Core.Bool.{Bool, true, false, not, ◌&&◌}
use mathlib.Core.Logic.{◌⊎◌, inl, inr, ⊎_elim}
use mathlib.Core.List.{List}
use Prim.Native.Nat.{ℕ, ◌<◌}
use lib.Dec.{eqb, ltb}
use lib.ListN.{get_or}
use borrow.Author.Tests.{eqb-true, eqb-false, eq-eqb, ne_eqb, ltb-true, lt-ltb}
use Rattle.loops.specs.Below.{any_below}
use Rattle.loops.proofs.Laws.Truth.{and_left, and_right, and_both, or_cases, not-true}
use Rattle.loops.proofs.Laws.Tests.{any-find, any_of}
use Rattle.group.specs.Heads.{has, less, only}
use Rattle.group.specs.Words.{heads, rank}
use Rattle.group.proofs.Laws.Heads.{has-only, has-less, only-lt, within-at}
use Rattle.group.proofs.Laws.Words.{has-heads}
use Rattle.record.specs.Layout.{own, place_at, marks_at}
use Rattle.record.proofs.Laws.Layout.{own-small}
use Rattle.state.specs.declared.State.{State}
use Rattle.state.specs.declared.Held.{Held}
use Rattle.plan.specs.Members.{held_of, other}
use Rattle.plan.specs.Clearing.{all_marked, lists, behind, denies, to_clear}

-- ---- "whose heads less p are all marked"

others-of : (r : List ℕ) (i q : ℕ) → q < 16 → has (less (heads (place_at r i)) (only (own r))) q ≡ (has (place_at r i) q && not (eqb (own r) q))
others-of r i q h =
    has-less (heads (place_at r i)) (only (own r)) q (only-lt (own r) (own-small r)) h
    ∙ ap (λ (a : Bool). a && not (has (only (own r)) q)) (has-heads (place_at r i) q h)
    ∙ ap (λ (a : Bool). has (place_at r i) q && not a) (has-only (own r) q)

pub all-marked-at : (r : List ℕ) (i : ℕ) → all_marked r i ≡ true → (q : ℕ) → q < 16 → has (place_at r i) q ≡ true → (q ≡ own r → ⊥) → has (marks_at r i) q ≡ true
unfolding all_marked
all-marked-at r i e q h t n =
    within-at _ (marks_at r i) e q (others-of r i q h ∙ and_both _ _ t (ap not (ne_eqb (own r) q (λ s. n (sym s)))))

-- ---- a state that lists session w

pub lists_of : (st : State) (w j : ℕ) → j < 16 → j < st.count → get_or st.places j 0 ≡ w → lists st w ≡ true
unfolding lists
lists_of st w j h c e = any_of 16 _ j h (and_both _ _ (lt-ltb j st.count c) (eq-eqb _ w e))

-- ---- "a last primary with a lower number, or the same number and other heads"

pub behind-cases : (p w : ℕ) → behind p w ≡ true → (rank p < rank w) ⊎ ((rank p ≡ rank w) × (heads p ≡ heads w → ⊥))
unfolding behind
behind-cases p w e =
    ⊎_elim (λ l. inl (ltb-true _ _ l))
    (λ s. inr (eqb-true _ _ (and_left (eqb (rank p) (rank w)) _ s), eqb-false _ _ (not-true _ (and_right (eqb (rank p) (rank w)) _ s))))
    (or_cases (ltb (rank p) (rank w)) _ e)

-- ---- head q denies session w

pub record Denies (m : ℕ) (held : Held) (r : List ℕ) (w q : ℕ) : Type 0 where
  pub in-session : has w q ≡ true
  pub is-other : other m r q ≡ true
  pub unlisted : lists (held_of held q) w ≡ false
  pub is-behind : behind (held_of held q).primary w ≡ true

module _ (m : ℕ) (held : Held) (r : List ℕ) (w q : ℕ) where
  pub denies-parts : denies m held r w q ≡ true → Denies m held r w q
  unfolding denies
  denies-parts e =
      let a = has w q in
      let b = other m r q in
      let c = not (lists (held_of held q) w) in
      let d = behind (held_of held q).primary w in
      let abc = and_left (a && b && c) d e in
      let ab = and_left (a && b) c abc in
      record {
        in-session = and_left a b ab;
        is-other = and_right a b ab;
        unlisted = not-true _ (and_right (a && b) c abc);
        is-behind = and_right (a && b && c) d e;
      }

-- ---- a place to clear

module _ (m : ℕ) (held : Held) (r : List ℕ) (i : ℕ) where
  pub to-clear-used : to_clear m held r i ≡ true → place_at r i ≡ 0 → ⊥
  unfolding to_clear
  to-clear-used e = eqb-false _ 0 (not-true _ (and_left (not (eqb (place_at r i) 0)) _ e))

  pub to-clear-cases : to_clear m held r i ≡ true → (all_marked r i ≡ true) ⊎ ((q : ℕ) × (q < 16) × Denies m held r (place_at r i) q)
  unfolding to_clear
  to-clear-cases e =
      ⊎_elim inl (λ t. let x = any-find 16 (denies m held r (place_at r i)) t in inr (x.0, x.1, denies-parts m held r (place_at r i) x.0 x.2))
      (or_cases (all_marked r i) (any_below 16 (denies m held r (place_at r i))) (and_right (not (eqb (place_at r i) 0)) _ e))
