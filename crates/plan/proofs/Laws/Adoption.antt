-- Laws of adoption (b): what is adopted is some other member's last formed for own head, the highest-numbered, of the lowest head on a tie; where that
-- member's state keeps the rules, it is a session with own head, numbered within that member's session number.
use mathlib.Core.Path.{◌≡◌, ap, subst, ◌∙◌}
use mathlib.Core.Bool.{Bool, true, false, cond}
use mathlib.Core.Logic.{◌⊎◌, inl, inr, ⊎_elim}
use mathlib.Core.List.{List}
use Prim.Native.Nat.{ℕ, ◌≤◌, ◌<◌}
use native.Mathlib.Nat.{lt_irrefl}
use native.Mathlib.Omega.{arith}
use lib.Dec.{eqb}
use lib.ListN.{get_or}
use borrow.Author.Tests.{ltb-true, lt-ltb, eqb-true}
use Rattle.loops.proofs.Laws.Truth.{and_both, or_cases, passes-or-fails, not-both}
use Rattle.group.specs.Heads.{has}
use Rattle.group.specs.Words.{num, rank, sound, session_word, primary_ok}
use Rattle.group.proofs.Laws.Heads.{has-none}
use Rattle.group.proofs.Laws.Words.{rank-none, highest-each, highest-from}
use Rattle.group.proofs.Laws.Formed.{Formed, Formed.member as member, Formed.none as none, Formed.lower as lower, formed-cases}
use Rattle.record.specs.Layout.{own, primary}
use Rattle.record.proofs.Laws.Layout.{own-small}
use Rattle.state.specs.declared.Held.{Held}
use Rattle.state.specs.Rules.{keeps_rules}
use Rattle.state.proofs.Laws.Kept.{kept}
use Rattle.plan.specs.Members.{held_of, other, formed_with}
use Rattle.plan.specs.Adoption.{offered, best_offer, adopts}

-- session w is head `from`'s last formed for own head, and no head before it offers as high a number
pub record Offered (m : ℕ) (held : Held) (r : List ℕ) (w : ℕ) : Type 0 where
  pub from : ℕ
  pub head : from < 16
  pub is-other : other m r from ≡ true
  pub is : w ≡ formed_with held r from
  pub lowest : (q : ℕ) → q < from → rank (offered m held r q) < rank w

module _ (m : ℕ) (held : Held) (r : List ℕ) where
  offered-other : (q : ℕ) → other m r q ≡ true → offered m held r q ≡ formed_with held r q
  unfolding offered
  offered-other q e = ap (λ (b : Bool). cond b (formed_with held r q) 0) e

  offered-none : (q : ℕ) → other m r q ≡ false → offered m held r q ≡ 0
  unfolding offered
  offered-none q e = ap (λ (b : Bool). cond b (formed_with held r q) 0) e

  -- every other member's is at most the best
  pub best-each : (q : ℕ) → q < 16 → other m r q ≡ true → rank (formed_with held r q) ≤ rank (best_offer m held r)
  unfolding best_offer
  best-each q h e = subst (λ (w : ℕ). rank w ≤ rank (best_offer m held r)) (offered-other q e) (highest-each 16 (offered m held r) q h)

  -- the best is some other member's, if it is not none
  pub best-from : (best_offer m held r ≡ 0) ⊎ (Offered m held r (best_offer m held r))
  unfolding best_offer
  best-from =
      ⊎_elim inl
      (λ x.
      ⊎_elim
      (λ e. inr (record {
        from = x.0;
        head = x.1;
        is-other = e;
        is = x.2 ∙ offered-other x.0 e;
        lowest = λ q l. rw x.2 (x.3 q l);
      }))
      (λ f. inl (x.2 ∙ offered-none x.0 f))
      (passes-or-fails (other m r x.0)))
      (highest-from 16 (offered m held r))

  pub adopts-above : adopts m held r ≡ true → rank (primary r) < rank (best_offer m held r)
  unfolding adopts
  adopts-above e = ltb-true (rank (primary r)) (rank (best_offer m held r)) e

  pub adopts-some : adopts m held r ≡ true → best_offer m held r ≡ 0 → ⊥
  adopts-some e z = lt_irrefl 0 (omega (arith, adopts-above e, ap rank z, rank-none))

  pub adopts-from : adopts m held r ≡ true → Offered m held r (best_offer m held r)
  adopts-from e = ⊎_elim (λ z. absurd (adopts-some e z)) (λ o. o) best-from

-- ---- a state that keeps the rules offers a session with own head

pub has-zero : (w q : ℕ) → has w q ≡ true → w ≡ 0 → ⊥
has-zero w q e z = not-both (has w q) e (ap (λ (v : ℕ). has v q) z ∙ has-none q)

-- session w as head q may have last formed it with head p: both are in it, and it is numbered within q's session number
pub record Formable (p q top w : ℕ) : Type 0 where
  pub is-sound : sound w ≡ true
  pub with-own : has w p ≡ true
  pub with-other : has w q ≡ true
  pub within-number : num w ≤ top

pub last-formed : (held : Held) (r : List ℕ) (q : ℕ) → keeps_rules (held_of held q) q ≡ true → (formed_with held r q ≡ 0 → ⊥)
    → Formable (own r) q (held_of held q).number (formed_with held r q)
unfolding formed_with primary_ok
last-formed held r q e some =
    let st = held_of held q in
    let k = kept st q e in
    let p = own r in
    let h = own-small r in
    let w = get_or st.formed p 0 in
    record {
      is-sound = k.formed-sound p h;
      with-own = mine (formed-cases q st.primary p w (k.formed-ok p h));
      with-other = theirs (formed-cases q st.primary p w (k.formed-ok p h)) (or_cases (eqb st.primary 0) (has st.primary q) k.primary-ok);
      within-number = k.formed-number p h;
    }
  where
    mine : Formed q (held_of held q).primary (own r) (get_or (held_of held q).formed (own r) 0) → has (get_or (held_of held q).formed (own r) 0) (own r) ≡ true
    mine (member i e) = rw e i
    mine (none o z) = absurd (some z)
    mine (lower o a b l) = b

    theirs : Formed q (held_of held q).primary (own r) (get_or (held_of held q).formed (own r) 0) → (eqb (held_of held q).primary 0 ≡ true) ⊎ (has (held_of held q).primary q ≡ true)
        → has (get_or (held_of held q).formed (own r) 0) q ≡ true
    theirs (member i e) (inl z) = absurd (has-zero (held_of held q).primary (own r) i (eqb-true _ 0 z))
    theirs (member i e) (inr t) = rw e t
    theirs (none o z) t = absurd (some z)
    theirs (lower o a b l) t = a

-- a session word of the record, if q's session number is one
pub formable-word : (p q top w : ℕ) → Formable p q top w → top < 4294967296 → session_word w ≡ true
unfolding session_word
formable-word p q top w f h = and_both (sound w) _ f.is-sound (lt-ltb w 281474976710656 (omega (arith, f.within-number)))
