-- Attempts in a run: a place holds what its head attempted; a head's attempts rise in number and in view; all who attempt in one view attempt one
-- session. The last is so because an attempt's number is one above the highest that some member sent in that view: until it attempts, a
-- head's own number is covered by a sent one (adoption raises it only to a number that its teller's covers).
use mathlib.Core.Path.{◌≡◌, refl, sym, ap, subst, ◌∙◌}
use mathlib.Core.Logic.{◌⊎◌, inl, inr, ⊎_elim}
use Prim.Native.Nat.{ℕ, zero, suc, ◌≤◌, ◌<◌}
use native.Mathlib.Nat.{le_refl}
use native.Mathlib.Omega.{arith}
use Rattle.loops.proofs.Laws.Order.{lt-or-ge}
use Rattle.chain.specs.Model.{Sess, Group, rank_of, Local, Event, tidy, enter, adopt, attempt, form}
use Rattle.chain.proofs.Laws.Numbers.{compare, same-sess}
use Rattle.chain.proofs.Laws.Runs.{Run, By, Entry}
use Rattle.chain.proofs.Laws.Grows.{OkAt, ok_of, view-up, num-up, tried-up, prim-num, formed-prim}

pub number_of : {S T : Sess} → S ≡ T → S.number ≡ T.number
number_of p = ap (λ (z : Sess). z.number) p

module _ {G : Group} (R : Run G) where
  open R use {st, ev}

  -- ---- places

  place-num-step : (t q : ℕ) (S : Sess) (e : Event) → OkAt R t q e → ((st t q).places S → rank_of (st t q).prim ≤ S.number) → (st (suc t) q).places S → rank_of (st (suc t) q).prim ≤ S.number
  place-num-step t q S tidy k ih p = omega (arith, ap rank_of k.still.prim, ih (k.shrink S p))
  place-num-step t q S (enter v) k ih p = omega (arith, ap rank_of k.still.prim, ih (k.shrink S p))
  place-num-step t q S (adopt F) k ih p = omega (arith, ap rank_of k.prim, (k.shrink S p).1)
  place-num-step t q S (attempt N) k ih p =
      ⊎_elim (λ o. omega (arith, ap rank_of k.prim, ih o)) (λ e. omega (arith, ap rank_of k.prim, prim-num R t q, k.own, number_of e)) (k.grow S p)
  place-num-step t q S (form N) k ih p = absurd (k.shrink S p)

  -- a place's number is above the last primary's
  pub place-num : (t q : ℕ) (S : Sess) → (st t q).places S → rank_of (st t q).prim ≤ S.number
  place-num zero q S p = absurd ((R.init q).places S p)
  place-num (suc t) q S p = place-num-step t q S (ev t q) (R.ok t q) (place-num t q S) p

  -- q attempted S in its first t changes
  abbrev pub Tried : ℕ → ℕ → Sess → Type 0
  Tried t q S = (a : ℕ) × (a < t) × (ev a q ≡ attempt S)

  tried-later : (t q : ℕ) (S : Sess) → Tried t q S → Tried (suc t) q S
  tried-later t q S (a, d, w) = (a, omega arith, w)

  place-att-step : (t q : ℕ) (S : Sess) (e : Event) → ev t q ≡ e → OkAt R t q e → ((st t q).places S → Tried t q S) → (st (suc t) q).places S → Tried (suc t) q S
  place-att-step t q S tidy w k ih p = tried-later t q S (ih (k.shrink S p))
  place-att-step t q S (enter v) w k ih p = tried-later t q S (ih (k.shrink S p))
  place-att-step t q S (adopt F) w k ih p = tried-later t q S (ih (k.shrink S p).0)
  place-att-step t q S (attempt N) w k ih p = ⊎_elim (λ o. tried-later t q S (ih o)) (λ e. (t, omega arith, w ∙ ap attempt (sym e))) (k.grow S p)
  place-att-step t q S (form N) w k ih p = absurd (k.shrink S p)

  -- a place holds a session that its head attempted
  pub place-att : (t q : ℕ) (S : Sess) → (st t q).places S → Tried t q S
  place-att zero q S p = absurd ((R.init q).places S p)
  place-att (suc t) q S p = place-att-step t q S (ev t q) refl (R.ok t q) (place-att t q S) p

  -- ---- one head's attempts

  pub att-low : {a q : ℕ} {S : Sess} (t : ℕ) → ev a q ≡ attempt S → a < t → S.number ≤ (st t q).num
  att-low {a} {q} t w h = omega (arith, (ok_of R w).num, num-up R q (suc a) t h)

  -- a later attempt has a higher number and a higher view
  pub att-order : {a b q : ℕ} {S T : Sess} → ev a q ≡ attempt S → ev b q ≡ attempt T → a < b → (S.number < T.number) × ((st a q).view < (st b q).view)
  att-order {a} {b} {q} w z h = (omega (arith, att-low b w h, (ok_of R z).own), omega (arith, (ok_of R w).tried, (ok_of R z).early, tried-up R q (suc a) b h))

  -- attempts of one number are one
  pub att-same : {a b q : ℕ} {S T : Sess} → ev a q ≡ attempt S → ev b q ≡ attempt T → S.number ≡ T.number → (a ≡ b) × (S ≡ T)
  att-same {a} {b} {q} {S} {T} w z n = go (compare a b)
    where
      go : (a < b) ⊎ ((a ≡ b) ⊎ (b < a)) → (a ≡ b) × (S ≡ T)
      go (inl h) = absurd (omega (arith, (att-order w z h).0))
      go (inr (inl e)) = (e, cc)
      go (inr (inr h)) = absurd (omega (arith, (att-order z w h).0))

  -- of a head's attempts, one of a lower number came before
  pub att-before : {a b q : ℕ} {S T : Sess} → ev a q ≡ attempt S → ev b q ≡ attempt T → S.number < T.number → a < b
  att-before {a} {b} {q} {S} {T} w z l = go (compare a b)
    where
      same : a ≡ b → S ≡ T
      same e = cc

      go : (a < b) ⊎ ((a ≡ b) ⊎ (b < a)) → a < b
      go (inl h) = h
      go (inr (inl e)) = absurd (omega (arith, number_of (same e)))
      go (inr (inr h)) = absurd (omega (arith, (att-order z w h).0))

  -- ---- views

  -- what is in a lower view came before the entry
  pub entry-after : {c x v : ℕ} (b : ℕ) → ev c x ≡ enter v → (st b x).view < v → b ≤ c
  entry-after {c} {x} {v} b w h = ⊎_elim (λ l. absurd (omega (arith, (ok_of R w).view, view-up R x (suc c) b l))) (λ g. g) (lt-or-ge c b)

  -- what is in that view or a higher one came after it
  entry-before : {c x v : ℕ} (b : ℕ) → ev c x ≡ enter v → v ≤ (st b x).view → c < b
  entry-before {c} {x} {v} b w h = ⊎_elim (λ l. l) (λ g. absurd (omega (arith, (ok_of R w).up, view-up R x b c g))) (lt-or-ge c b)

  -- a head enters a view once
  pub entry-one : {c d x v : ℕ} → ev c x ≡ enter v → ev d x ≡ enter v → c ≡ d
  entry-one {c} {d} w z = omega (arith, entry-before (suc c) z (omega (arith, (ok_of R w).view)), entry-before (suc d) w (omega (arith, (ok_of R z).view)))

  -- ---- all who attempt in one view attempt one session

  -- some member's state sent in view v has a number of at least n
  abbrev Covered : ℕ → ℕ → Type 0
  Covered v n = (y : ℕ) × (c : ℕ) × G.In y (G.members v) × (ev c y ≡ enter v) × (n ≤ (st (suc c) y).num)

  covered-to : {v w m n : ℕ} → Covered v n → v ≡ w → m ≤ n → Covered w m
  covered-to {v} {w} {m} {n} (y, c, i, z, l) e h = (y, c, subst (λ u. G.In y (G.members u)) e i, z ∙ ap enter e, omega arith)

  -- p has attempted in its view, or its number is covered
  abbrev TriedOrCovered : ℕ → ℕ → Type 0
  TriedOrCovered t p = ((st t p).view ≤ (st t p).tried) ⊎ Covered (st t p).view (st t p).num

  covered_same : (t p : ℕ) → (st (suc t) p).view ≡ (st t p).view → (st (suc t) p).tried ≡ (st t p).tried → (st (suc t) p).num ≤ (st t p).num → TriedOrCovered t p → TriedOrCovered (suc t) p
  covered_same t p v r n (inl h) = inl (omega arith)
  covered_same t p v r n (inr s) = inr (covered-to s (sym v) n)

  covered-step : (t p : ℕ) (e : Event) → ev t p ≡ e → OkAt R t p e → TriedOrCovered t p → TriedOrCovered (suc t) p
  covered-step t p tidy w k ih = covered_same t p k.view k.still.tried (omega (arith, k.still.num)) ih
  covered-step t p (enter v) w k ih = inr (covered-to {v = v} {n = (st (suc t) p).num} (p, t, k.mine, w, le_refl _) (sym k.view) (le_refl _))
  covered-step t p (adopt F) w k ih =
      ⊎_elim
      (λ n. covered_same t p k.view k.tried n ih)
      (λ n. inr (covered-to {n = (st (suc t) p).num}
      (k.who, c, k.member, s.2.0, omega (arith, told, formed-prim R (suc c) k.who p, prim-num R (suc c) k.who))
      (sym k.view) (le_refl _)))
      k.num-top
    where
      s : By (Entry (st t p).view k.sent) st ev t k.who
      s = R.snap-by k.snap

      c : ℕ
      c = s.0

      told : rank_of ((st (suc c) k.who).formed p) ≡ suc F.number
      told = ap (λ (m : Local). rank_of (m.formed p)) s.2.1 ∙ ap rank_of k.told
  covered-step t p (attempt S) w k ih = inl (omega (arith, k.tried, k.view))
  covered-step t p (form S) w k ih = covered_same t p k.view k.tried (omega (arith, k.num)) ih

  tried-or-covered : (t p : ℕ) → TriedOrCovered t p
  tried-or-covered zero p = inl (omega (arith, (R.init p).view))
  tried-or-covered (suc t) p = covered-step t p (ev t p) refl (R.ok t p) (tried-or-covered t p)

  -- an attempt's number is above every number sent in its view
  above-sent : {b q c y : ℕ} {S : Sess} → ev b q ≡ attempt S → G.In y S.heads → ev c y ≡ enter (st b q).view → (st (suc c) y).num < S.number
  above-sent {b} {q} {c} {y} {S} w i z = ⊎_elim (λ (e, s). own e) (λ n. other (R.snap-by n)) ((ok_of R w).hear y i).why
    where
      own : y ≡ q → (st (suc c) y).num < S.number
      own e =
          let z' : ev c q ≡ enter (st b q).view = rw e at z in
          let n : (st (suc c) q).num ≤ (st b q).num = num-up R q (suc c) b (entry-before b z' (le_refl _)) in
          rw e (omega (arith, (ok_of R w).own))

      other : By (Entry (st b q).view ((ok_of R w).hear y i).state) st ev b y → (st (suc c) y).num < S.number
      other (d, h, (u, s)) =
          let e : c ≡ d = entry-one z u in
          rw e (omega (arith, (ok_of R w).high y i, ap (λ (m : Local). m.num) s))

  -- of two attempts in one view the first one's number is at most the second's
  number-le : {a p b q : ℕ} {S T : Sess} → ev a p ≡ attempt S → ev b q ≡ attempt T → (st a p).view ≡ (st b q).view → S.number ≤ T.number
  number-le {a} {p} {b} {q} {S} {T} w z v = go (ok_of R w).tight
    where
      sent-below : (y c n : ℕ) → G.In y (G.members (st a p).view) → ev c y ≡ enter (st a p).view → n ≤ (st (suc c) y).num → n < T.number
      sent-below y c n i u h =
          let j : G.In y T.heads = subst (λ s. G.In y s) (ap G.members v ∙ sym (ok_of R z).heads) i in
          omega (arith, above-sent z j (u ∙ ap enter v))

      own : TriedOrCovered a p → (st a p).num < T.number
      own (inl h) = absurd (omega (arith, (ok_of R w).early))
      own (inr (y, c, m, u, h)) = sent-below y c (st a p).num m u h

      sent : (x : ℕ) (i : G.In x S.heads) → By (Entry (st a p).view ((ok_of R w).hear x i).state) st ev a x → ((ok_of R w).hear x i).state.num < T.number
      sent x i (c, h, (u, s)) = omega (arith, sent-below x c (st (suc c) x).num (subst (λ s. G.In x s) (ok_of R w).heads i) u (le_refl _), ap (λ (m : Local). m.num) s)

      go : (x : ℕ) × (i : G.In x S.heads) × (S.number ≡ suc ((ok_of R w).hear x i).state.num) → S.number ≤ T.number
      go (x, i, n) =
          ⊎_elim
          (λ (e, s). omega (arith, own (tried-or-covered a p), ap (λ (m : Local). m.num) s))
          (λ k. omega (arith, sent x i (R.snap-by k)))
          ((ok_of R w).hear x i).why

  pub view-sess : {a p b q : ℕ} {S T : Sess} → ev a p ≡ attempt S → ev b q ≡ attempt T → (st a p).view ≡ (st b q).view → S ≡ T
  view-sess {S = S} {T = T} w z v = same-sess S T ((ok_of R w).heads ∙ ap G.members v ∙ sym (ok_of R z).heads) (omega (arith, number-le w z v, number-le z w (sym v)))
