-- Decide's a, b and c by words: marks, an adoption and clearings as the chain's heads make them, wherever they are cut.
use mathlib.Core.Bool.{Bool, true, false, not, cond, ◌&&◌, ◌||◌}
use mathlib.Core.Logic.{◌⊎◌, inl, inr, ⊎_elim}
use mathlib.Core.Path.{◌≡◌, refl, sym, ap, subst, ◌∙◌}
use mathlib.Core.List.{List}
use Prim.Native.Nat.{ℕ, ◌≤◌, ◌<◌}
use native.Mathlib.Omega.{arith}
use lib.Dec.{eqb, leb, ltb}
use lib.ListN.{length, get_or}
use borrow.Author.Tests.{eqb-true, eqb-false, ltb-true, leb-true, leb-false}
use Rattle.loops.proofs.Laws.Truth.{not-both, passes-or-fails}
use Rattle.loops.proofs.Laws.Order.{lt-or-ge}
use Rattle.loops.specs.Below.{any_below}
use Rattle.group.specs.Heads.{has, less, only, within}
use Rattle.group.specs.Words.{heads, rank}
use Rattle.group.proofs.Laws.Heads.{has-below}
use Rattle.group.proofs.Laws.Words.{rank-none, has-heads}
use Rattle.store.specs.Desk.{apply}
use Rattle.store.proofs.Laws.Script.{apply-length}
use Rattle.record.specs.Layout.{settings, own, core, least, entered, number, primary, formed_for, place_at, marks_at}
use Rattle.record.proofs.Laws.Layout.{same-own, same-core, same-least, changed, changed-here, changed-there}
use Rattle.recovery.specs.Changes.{past, adopt_change, clear_change}
use Rattle.recovery.proofs.Laws.Adopt.{adopted}
use Rattle.state.specs.declared.Held.{Held}
use Rattle.plan.specs.Members.{held_of, other, formed_with}
use Rattle.plan.specs.Marks.{marked, mark_step}
use Rattle.plan.specs.Adoption.{best_offer, adopts}
use Rattle.plan.specs.Clearing.{all_marked, lists, behind, denies, to_clear, clear_step}
use Rattle.plan.proofs.Laws.After.{marked-reads, cleared-reads}
use Rattle.plan.proofs.Laws.Marked.{ToMark, marked_from, other-member, other-apart}
use Rattle.plan.proofs.Laws.Adoption.{adopts-above, adopts-from}
use Rattle.plan.proofs.Laws.Clearing.{all-marked-at, lists_of, behind-cases, to-clear-used, to-clear-cases}
use Rattle.chain.specs.Model.{Group}
use Rattle.chain.specs.Words.{Said, guard, Listed, Member, Marks, Adopts, Cleared, Clears}
use Rattle.chain.proofs.Laws.Words.{guard-in, guard_out, guard-same}
use Rattle.history.specs.Setting.{Setting}
use Rattle.history.proofs.Abstraction.{rec_of, said_of}
use Rattle.history.proofs.Invariant.{Reading}

-- what each head said
abbrev pub said_in : Held → ℕ → Said
said_in held q = said_of (held_of held q)

-- a record of head p in a view whose members are m
pub record Within (S : Setting) (G : Group) (p m : ℕ) (r : List ℕ) : Type 0 where
  pub seat : p < 16
  pub small : m < 65536
  pub mine : own r ≡ p
  pub here : G.members (entered r) ≡ m
  pub long : length r ≡ 52
  pub core_is : core r ≡ S.core
  pub least-is : least r ≡ S.least

-- what stays while decide stores
pub record Alike (r x : List ℕ) : Type 0 where
  pub long : length x ≡ 52
  pub settings-is : settings x ≡ settings r
  pub entered-is : entered x ≡ entered r

pub still-within : (S : Setting) (G : Group) (p m : ℕ) (r x : List ℕ) → Within S G p m r → Alike r x → Within S G p m x
unfolding core least
still-within S G p m r x w a = record {
  seat = w.seat;
  small = w.small;
  mine = same-own x r a.settings-is ∙ w.mine;
  here = ap G.members a.entered-is ∙ w.here;
  long = a.long;
  core_is = same-core x r a.settings-is ∙ w.core_is;
  least-is = same-least x r a.settings-is ∙ w.least-is;
}

-- ---- a. x is r with some marks more

pub record Marking (m : ℕ) (held : Held) (r x : List ℕ) : Type 0 where
  pub alike : Alike r x
  pub number_is : number x ≡ number r
  pub primary-is : primary x ≡ primary r
  pub formed-is : (q : ℕ) → q < 16 → formed_for x q ≡ formed_for r q
  pub place_is : (i : ℕ) → i < 16 → place_at x i ≡ place_at r i
  pub mark-from : (i q : ℕ) → i < 16 → has (marks_at x i) q ≡ true → (has (marks_at r i) q ≡ true) ⊎ ToMark m held r i q

same-to-mark : (m : ℕ) (held : Held) (r x : List ℕ) (i q : ℕ) → own x ≡ own r → place_at x i ≡ place_at r i → ToMark m held x i q → ToMark m held r i q
unfolding other formed_with
same-to-mark m held r x i q o e t = record {
  in_place = rw (sym e) t.in_place;
  is-other = rw (sym o) t.is-other;
  below = rw (sym o, sym e) t.below;
}

module _ (m : ℕ) (held : Held) (r : List ℕ) where
  pub marking-start : length r ≡ 52 → Marking m held r r
  marking-start l = record {
    alike = record { long = l; settings-is = refl; entered-is = refl };
    number_is = refl;
    primary-is = refl;
    formed-is = λ q h. refl;
    place_is = λ i h. refl;
    mark-from = λ i q h t. inl t;
  }

  pub marking_step : (i : ℕ) → i < 16 → (x : List ℕ) → Marking m held r x → Marking m held r (apply (mark_step m held i x) x)
  marking_step i h x k =
      let y = apply (mark_step m held i x) x in
      let t = marked-reads x k.alike.long i h m held in
      record {
        alike = record {
          long = apply-length (mark_step m held i x) x ∙ k.alike.long;
          settings-is = t.settings-is ∙ k.alike.settings-is;
          entered-is = t.entered-is ∙ k.alike.entered-is;
        };
        number_is = t.number_is ∙ k.number_is;
        primary-is = t.primary-is ∙ k.primary-is;
        formed-is = λ q l. t.formed-is q l ∙ k.formed-is q l;
        place_is = λ j l. t.place_is j l ∙ k.place_is j l;
        mark-from = λ j q l u. ⊎_elim
            (λ e. subst (λ (n : ℕ). (has (marks_at r n) q ≡ true) ⊎ ToMark m held r n q) (sym (eqb-true j i e))
            (⊎_elim (λ v. k.mark-from i q h v) (λ v. inr (same-to-mark m held r x i q (same-own x r k.alike.settings-is) (k.place_is i h) v))
            (marked_from m held x i q (sym (ap (λ (n : ℕ). has n q) (ap (marks_at y) (eqb-true j i e) ∙ t.marks-is i h ∙ changed-here i (marked m held x i) (marks_at x))) ∙ u))))
            (λ e. k.mark-from j q l (sym (ap (λ (n : ℕ). has n q) (t.marks-is j l ∙ changed-there i (marked m held x i) (marks_at x) j (eqb-false j i e))) ∙ u))
            (passes-or-fails (eqb j i));
      }

-- ---- c. x is r with some places cleared

pub record Clearing (m : ℕ) (held : Held) (r x : List ℕ) : Type 0 where
  pub alike : Alike r x
  pub number_is : number x ≡ number r
  pub primary-is : primary x ≡ primary r
  pub formed-is : (q : ℕ) → q < 16 → formed_for x q ≡ formed_for r q
  pub place_is : (i : ℕ) → i < 16 → ((place_at x i ≡ place_at r i) × (marks_at x i ≡ marks_at r i)) ⊎ ((place_at x i ≡ 0) × (to_clear m held r i ≡ true))

-- the test of a place by own head o, its session w and its marks k
abbrev clear_by : ℕ → Held → ℕ → ℕ → ℕ → Bool
clear_by m held o w k =
    not (eqb w 0)
    && (within (less (heads w) (only o)) k
    || any_below 16 (λ q. has w q && (has m q && not (eqb q o)) && not (lists (held_of held q) w) && behind (held_of held q).primary w))

same-to-clear : (m : ℕ) (held : Held) (r x : List ℕ) (i : ℕ) → own x ≡ own r → place_at x i ≡ place_at r i → marks_at x i ≡ marks_at r i → to_clear m held x i ≡ to_clear m held r i
unfolding to_clear all_marked denies other
same-to-clear m held r x i o e f =
    ap (λ (a : ℕ). clear_by m held a (place_at x i) (marks_at x i)) o
    ∙ ap (λ (a : ℕ). clear_by m held (own r) a (marks_at x i)) e
    ∙ ap (λ (a : ℕ). clear_by m held (own r) (place_at r i) a) f

module _ (m : ℕ) (held : Held) (r : List ℕ) where
  pub clearing-start : length r ≡ 52 → Clearing m held r r
  clearing-start l = record {
    alike = record { long = l; settings-is = refl; entered-is = refl };
    number_is = refl;
    primary-is = refl;
    formed-is = λ q h. refl;
    place_is = λ i h. inl (refl, refl);
  }

  clearing-done : (i : ℕ) → i < 16 → (x : List ℕ) → Clearing m held r x → to_clear m held x i ≡ true → Clearing m held r (apply (clear_change i) x)
  clearing-done i h x k e =
      let y = apply (clear_change i) x in
      let t = cleared-reads x k.alike.long i h in
      record {
        alike = record {
          long = apply-length (clear_change i) x ∙ k.alike.long;
          settings-is = t.settings-is ∙ k.alike.settings-is;
          entered-is = t.entered-is ∙ k.alike.entered-is;
        };
        number_is = t.number_is ∙ k.number_is;
        primary-is = t.primary-is ∙ k.primary-is;
        formed-is = λ q l. t.formed-is q l ∙ k.formed-is q l;
        place_is = λ j l. ⊎_elim
            (λ s.
            let z : j ≡ i = eqb-true j i s in
            inr (
              t.place_is j l ∙ ap (changed i 0 (place_at x)) z ∙ changed-here i 0 (place_at x),
              ap (to_clear m held r) z ∙ ⊎_elim (λ u. sym (same-to-clear m held r x i (same-own x r k.alike.settings-is) u.0 u.1) ∙ e) (λ u. u.1) (k.place_is i h),
            ))
            (λ s.
            let n = eqb-false j i s in
            let a = t.place_is j l ∙ changed-there i 0 (place_at x) j n in
            ⊎_elim (λ u. inl (a ∙ u.0, t.marks-is j l ∙ changed-there i 0 (marks_at x) j n ∙ u.1)) (λ u. inr (a ∙ u.0, u.1)) (k.place_is j l))
            (passes-or-fails (eqb j i));
      }

  pub clearing-step : (i : ℕ) → i < 16 → (x : List ℕ) → Clearing m held r x → Clearing m held r (apply (clear_step m held i x) x)
  unfolding clear_step apply
  clearing-step i h x k =
      ⊎_elim (λ e. rw e (clearing-done i h x k e)) (λ e. rw e k) (passes-or-fails (to_clear m held x i))

-- ---- by words

module _ (S : Setting) (G : Group) (R : Reading S G) (p m : ℕ) (held : Held) (r : List ℕ) (w : Within S G p m r) where
  pub has_in : (q : ℕ) → has m q ≡ true → Member G (rec_of r) q
  has_in q e = subst (λ (t : ℕ). G.In q t) (sym w.here) (R.into q m (has-below m q w.small e) e)

  pub in-has : (q : ℕ) → Member G (rec_of r) q → (q < 16) × (has m q ≡ true)
  in-has q j = R.out q m (subst (λ (t : ℕ). G.In q t) w.here j)

  -- what q says that it last formed with p
  said-formed : (q : ℕ) → (said_in held q).formed p ≡ formed_with held r q
  unfolding formed_with
  said-formed q = guard-in (λ (j : ℕ). get_or (held_of held q).formed j 0) p w.seat ∙ ap (λ (j : ℕ). get_or (held_of held q).formed j 0) (sym w.mine)

  -- STEP A
  pub marks-are : (x : List ℕ) → Marking m held r x → Marks G p (said_in held) (rec_of r) (rec_of x)
  marks-are x k = record {
    view = k.alike.entered-is;
    stay = record { num = k.number_is; prim = k.primary-is; formed = guard-same (formed_for x) (formed_for r) k.formed-is };
    place = k.place_is;
    mark = λ i q h j.
        let (l, t) = R.out q (marks_at x i) j in
        ⊎_elim (λ u. inl (R.into q (marks_at r i) l u))
        (λ u. inr (
          (λ e. other-apart m r q u.is-other (e ∙ sym w.mine)),
          has_in q (other-member m r q u.is-other),
          rw (said-formed q) u.below,
        ))
        (k.mark-from i q h t);
  }

  -- STEP B
  module _ (e : adopts m held r ≡ true) where
    abbrev best : ℕ
    best = best_offer m held r

    abbrev y : List ℕ
    y = apply (adopt_change r best) r

    pub adopted-alike : Alike r y
    adopted-alike =
        let t = adopted r best w.long in record { long = apply-length (adopt_change r best) r ∙ w.long; settings-is = t.settings-is; entered-is = t.entered-is }

    best-formed : (x : ℕ) → ((guard (formed_for y) x ≡ best) × G.In x (heads best)) ⊎ (guard (formed_for y) x ≡ guard (formed_for r) x)
    best-formed x = ⊎_elim (λ l. go l (has best x) refl) (λ g. inr (guard_out (formed_for y) x g ∙ sym (guard_out (formed_for r) x g))) (lt-or-ge x 16)
      where
        go : x < 16 → (b : Bool) → has best x ≡ b → ((guard (formed_for y) x ≡ best) × G.In x (heads best)) ⊎ (guard (formed_for y) x ≡ guard (formed_for r) x)
        go l true t = inl (
          guard-in (formed_for y) x l ∙ (adopted r best w.long).formed-is x l ∙ ap (λ (b : Bool). cond b best (formed_for r x)) t,
          R.into x (heads best) l (has-heads best x l ∙ t),
        )
        go l false t = inr (
            guard-in (formed_for y) x l ∙ (adopted r best w.long).formed-is x l ∙ ap (λ (b : Bool). cond b best (formed_for r x)) t ∙ sym (guard-in (formed_for r) x l)
            )

    abbrev Placed : ℕ → Type 0
    Placed i =
        (((place_at y i ≡ place_at r i) × (marks_at y i ≡ marks_at r i)) × (rank best < rank (place_at r i))) ⊎ ((place_at y i ≡ 0) × (rank (place_at r i) ≤ rank best))

    best-place : (i : ℕ) → i < 16 → Placed i
    unfolding past
    best-place i l = go (eqb (place_at r i) 0) (leb (rank (place_at r i)) (rank best)) refl refl ((adopted r best w.long).place_is i l) ((adopted r best w.long).marks-is i l)
      where
        go : (b c : Bool) → eqb (place_at r i) 0 ≡ b → leb (rank (place_at r i)) (rank best) ≡ c → place_at y i ≡ cond (not b && c) 0 (place_at r i) → marks_at y i ≡ cond (not b && c) 0 (marks_at r i) → Placed i
        go true c e f s t = let z = eqb-true (place_at r i) 0 e in inr (s ∙ z, omega (arith, ap rank z, rank-none))
        go false true e f s t = inr (s, leb-true (rank (place_at r i)) (rank best) f)
        go false false e f s t = inl ((s, t), leb-false (rank (place_at r i)) (rank best) f)

    pub adopts-are : Adopts G p (said_in held) (rec_of r) (rec_of y)
    adopts-are =
        let o = adopts-from m held r e in
        let t = adopted r best w.long in
        record {
          word = best;
          from = o.from;
          member = has_in o.from (other-member m r o.from o.is-other);
          other = λ z. other-apart m r o.from o.is-other (z ∙ sym w.mine);
          told = said-formed o.from ∙ sym o.is;
          above = adopts-above m held r e;
          view = t.entered-is;
          number = t.number_is;
          prim = t.primary-is;
          formed = best-formed;
          place = best-place;
        }

  -- STEP C
  not_listed : (q i : ℕ) → (place_at r i ≡ 0 → ⊥) → lists (held_of held q) (place_at r i) ≡ false → Listed (said_in held q).place (place_at r i) → ⊥
  not_listed q i n f (j, l, e) =
      go (ltb j (held_of held q).count) refl
    where
      go : (b : Bool) → ltb j (held_of held q).count ≡ b → ⊥
      go true t =
          not-both (lists (held_of held q) (place_at r i))
          (lists_of (held_of held q) (place_at r i) j l (ltb-true j (held_of held q).count t) (sym (ap (λ (b : Bool). cond b (get_or (held_of held q).places j 0) 0) t) ∙ e)) f
      go false t = n (sym e ∙ ap (λ (b : Bool). cond b (get_or (held_of held q).places j 0) 0) t)

  cleared : (i : ℕ) → i < 16 → to_clear m held r i ≡ true → Cleared G p (said_in held) (rec_of r) i
  cleared i l t =
      ⊎_elim
      (λ e. inl (λ x j n.
      let (h, u) = R.out x (heads (place_at r i)) j in
      R.into x (marks_at r i) h (all-marked-at r i e x h (sym (has-heads (place_at r i) x h) ∙ u) (λ z. n (z ∙ w.mine)))))
      (λ (q, h, d). inr (
        q,
        R.into q (heads (place_at r i)) h (has-heads (place_at r i) q h ∙ d.in-session),
        has_in q (other-member m r q d.is-other),
        (λ z. other-apart m r q d.is-other (z ∙ sym w.mine)),
        not_listed q i (to-clear-used m held r i t) d.unlisted,
        ⊎_elim (λ b. omega arith) (λ b. omega (arith, b.0)) (behind-cases (held_of held q).primary (place_at r i) d.is-behind),
        (λ z. ⊎_elim (λ b. omega (arith, ap rank z)) (λ b. b.1 (ap heads z)) (behind-cases (held_of held q).primary (place_at r i) d.is-behind)),
      ))
      (to-clear-cases m held r i t)

  pub clears-are : (x : List ℕ) → Clearing m held r x → Clears G p (said_in held) (rec_of r) (rec_of x)
  clears-are x k = record {
    view = k.alike.entered-is;
    stay = record { num = k.number_is; prim = k.primary-is; formed = guard-same (formed_for x) (formed_for r) k.formed-is };
    place = λ i l. ⊎_elim (λ u. inl u) (λ u. inr (u.0, λ n. cleared i l u.1)) (k.place_is i l);
  }
