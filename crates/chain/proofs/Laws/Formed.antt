-- Forming in a run: a form comes after all its members' attempts of that very session; a mark is true for ever (that head never forms the session);
-- last primaries and last formed sessions were formed, and have their head.
use mathlib.Core.Path.{◌≡◌, refl, sym, ap, subst, ◌∙◌}
use mathlib.Core.Logic.{◌⊎◌, inl, inr, ⊎_elim}
use Prim.Native.Nat.{ℕ, zero, suc, ◌≤◌, ◌<◌}
use native.Mathlib.Nat.{le_refl}
use native.Mathlib.Omega.{arith}
use Rattle.chain.specs.Model.{Sess, Maybe, none, real, Group, core_sess, rank_of, Local, Event, tidy, enter, adopt, attempt, form, MarkOk}
use Rattle.chain.proofs.Laws.Numbers.{strong, compare, same-sess}
use Rattle.chain.proofs.Laws.Runs.{Run, By, Attempt, Form}
use Rattle.chain.proofs.Laws.Grows.{OkAt, ok_of, view-up, tried-up, formed-up}
use Rattle.chain.proofs.Laws.Attempts.{Tried, place-att, att-same, entry-after, view-sess}

pub none-real : {S : Sess} → none ≡ real S → ⊥
none-real e = let z : ◌≡◌ {A = ℕ} 0 1 = cc in omega arith

module _ {G : Group} (R : Run G) where
  open R use {st, ev}

  -- ---- a form comes after its members' attempts

  -- after an attempt, the number stays while the view does
  number-stays : {a q : ℕ} {S : Sess} → ev a q ≡ attempt S → (t : ℕ) → a < t → (st t q).view ≡ (st a q).view → (st t q).num ≡ S.number
  number-stays w zero h v = absurd (omega arith)
  number-stays {a} {q} {S} w (suc t) h v = go (λ d u. number-stays w t d u) (compare a t)
    where
      step : (e : Event) → OkAt R t q e → a < t → (st t q).view ≡ (st a q).view → (st t q).num ≡ S.number → (st (suc t) q).num ≡ S.number
      step tidy k d u n = omega (arith, k.still.num)
      step (enter x) k d u n = absurd (omega (arith, k.view, k.up))
      step (adopt F) k d u n = absurd (omega (arith, k.early, (ok_of R w).tried, tried-up R q (suc a) t d))
      step (attempt T) k d u n = absurd (omega (arith, k.early, (ok_of R w).tried, tried-up R q (suc a) t d))
      step (form T) k d u n = omega (arith, k.num)

      go : (a < t → (st t q).view ≡ (st a q).view → (st t q).num ≡ S.number) → (a < t) ⊎ ((a ≡ t) ⊎ (t < a)) → (st (suc t) q).num ≡ S.number
      go r (inl d) =
          let u : (st t q).view ≡ (st a q).view = omega (arith, view-up R q a t (omega arith), view-up R q t (suc t) (omega arith)) in
          step (ev t q) (R.ok t q) d u (r d u)
      go r (inr (inl e)) = rw (← e) (ok_of R w).num
      go r (inr (inr d)) = absurd (omega arith)

  -- each member attempted the session, in the view in which it was formed (the attempt lines carry only the view)
  pub form-att : {f q : ℕ} {S : Sess} → ev f q ≡ form S → (x : ℕ) → G.In x S.heads → (a : ℕ) × (a < f) × (ev a x ≡ attempt S) × ((st a x).view ≡ (st f q).view)
  form-att {f} {q} {S} w x i = go (R.att-by ((ok_of R w).all q (ok_of R w).mine)) (R.att-by ((ok_of R w).all x i))
    where
      go : By (Attempt (st f q).view) st ev f q → By (Attempt (st f q).view) st ev f x → (a : ℕ) × (a < f) × (ev a x ≡ attempt S) × ((st a x).view ≡ (st f q).view)
      go (b, h, (T, z, v)) (a, d, (U, u, n)) =
          let e : U ≡ T = view-sess R u z (n ∙ sym v) in
          let m : T ≡ S = same-sess T S ((ok_of R z).heads ∙ ap G.members v ∙ sym (ok_of R w).heads) (sym (number-stays z f h (sym v)) ∙ sym (ok_of R w).number) in
          (a, d, u ∙ ap attempt (e ∙ m), n)

  -- whoever may judge a place has entered a later view than the one in which its session was formed
  pub judged-later : {t h f x : ℕ} {S : Sess} → (st t h).places S → (st t h).tried < (st t h).view → ev f x ≡ form S → (st f x).view < (st t h).view
  judged-later {t} {h} {f} {x} {S} p l w = go (place-att R t h S p)
    where
      go : Tried R t h S → (st f x).view < (st t h).view
      go (a, d, z) =
          let (b, g, u, v) = form-att w h (ok_of R z).mine in
          let e : a ≡ b = (att-same R z u refl).0 in
          let v' : (st a h).view ≡ (st f x).view = rw e v in
          omega (arith, (ok_of R z).tried, tried-up R h (suc a) t d)

  -- ---- marks are true

  -- q forms S at no time
  abbrev pub NeverForms : ℕ → Sess → Type 0
  NeverForms q S = (f : ℕ) → ¬ (ev f q ≡ form S)

  -- h marks q in S, whose state it heard: had q formed S before, it would have told h; later it could not
  mark-sound : (t h q : ℕ) (S : Sess) → MarkOk G (R.Snap t) (R.Att t) h (st t h) (st (suc t) h) S q → NeverForms q S
  mark-sound t h q S j f w =
      let v : (st f q).view < (st t h).view = judged-later j.listed j.early w in
      let (c, _, (z, s)) = R.snap-by j.snap in
      let d : f ≤ c = entry-after R f z v in
      let u : suc S.number ≤ rank_of ((st (suc f) q).formed h) = ⊎_elim (λ (e, i). omega (arith, ap rank_of e)) (λ (e, n). absurd (n mine)) ((ok_of R w).formed h) in
      omega (arith, formed-up R h q (suc f) (suc c) (omega arith), j.low, ap (λ (m : Local). rank_of (m.formed h)) s)
    where
      mine : G.In h S.heads
      mine = (ok_of R (place-att R t h S j.listed).2).mine

  mark-step : (t h q : ℕ) (S : Sess) (e : Event) → OkAt R t h e → ((st t h).marks S q → NeverForms q S) → (st (suc t) h).marks S q → NeverForms q S
  mark-step t h q S tidy k ih m = ⊎_elim ih (mark-sound t h q S) (k.marks S q m)
  mark-step t h q S (enter v) k ih m = ih (k.marks S q m)
  mark-step t h q S (adopt F) k ih m = ih (k.marks S q m)
  mark-step t h q S (attempt T) k ih m = ih (k.marks S q m)
  mark-step t h q S (form T) k ih m = ih (k.marks S q m)

  pub mark-true : (t h q : ℕ) (S : Sess) → (st t h).marks S q → NeverForms q S
  mark-true zero h q S m = absurd ((R.init h).marks S q m)
  mark-true (suc t) h q S m = mark-step t h q S (ev t h) (R.ok t h) (mark-true t h q S) m

  -- ---- last primaries and last formed sessions were formed

  -- F is the core group's session, or was formed in the first t changes
  abbrev pub FormedBy : ℕ → Sess → Type 0
  FormedBy t F = (F ≡ core_sess G) ⊎ ((x : ℕ) × By (Form F) st ev t x)

  pub formed-later : {t u : ℕ} {F : Sess} → t ≤ u → FormedBy t F → FormedBy u F
  formed-later h (inl e) = inl e
  formed-later h (inr (x, (f, d, w))) = inr (x, (f, omega arith, w))

  -- F was formed and has x
  abbrev FormedWith : ℕ → ℕ → Sess → Type 0
  FormedWith t x F = FormedBy t F × G.In x F.heads

  with-later : {t u x : ℕ} {F : Sess} → t ≤ u → FormedWith t x F → FormedWith u x F
  with-later h (a, b) = (formed-later h a, b)

  with-same : {t : ℕ} (x : ℕ) {E F : Sess} {m : Maybe} → m ≡ real E → m ≡ real F → FormedWith t x E → FormedWith t x F
  with-same {t} x {E} {F} u w k = let e : E ≡ F = cc in subst (λ s. FormedWith t x s) e k

  abbrev Told : ℕ → Type 0
  Told t = (q x : ℕ) (F : Sess) → (st t q).formed x ≡ real F → FormedWith t x F

  told_same : {t : ℕ} (q x : ℕ) (F : Sess) → Told t → (st (suc t) q).formed x ≡ (st t q).formed x → (st (suc t) q).formed x ≡ real F → FormedWith (suc t) x F
  told_same q x F ih e w = with-later (omega arith) (ih q x F (sym e ∙ w))

  -- what h adopts was formed, and has h
  adopt-told-by : {t h : ℕ} {F : Sess} → ((u : ℕ) → u ≤ t → Told u) → OkAt R t h (adopt F) → FormedWith t h F
  adopt-told-by {t} {h} {F} ih k =
      let (c, d, (_, s)) = R.snap-by k.snap in
      with-later d (ih (suc c) d k.who h F (ap (λ (m : Local). m.formed h) s ∙ k.told))

  told-step : (t : ℕ) (q : ℕ) (e : Event) → ev t q ≡ e → OkAt R t q e → ((u : ℕ) → u ≤ t → Told u) → (x : ℕ) (F : Sess) → (st (suc t) q).formed x ≡ real F → FormedWith (suc t) x F
  told-step t q tidy w k ih x F e = told_same q x F (ih t (le_refl t)) (k.still.formed x) e
  told-step t q (enter v) w k ih x F e = told_same q x F (ih t (le_refl t)) (k.still.formed x) e
  told-step t q (adopt E) w k ih x F e =
      ⊎_elim (λ (u, i). with-same x u e (formed-later (omega arith) (adopt-told-by ih k).0, i)) (λ u. told_same q x F (ih t (le_refl t)) u e) (k.formed x)
  told-step t q (attempt S) w k ih x F e = told_same q x F (ih t (le_refl t)) (k.formed x) e
  told-step t q (form E) w k ih x F e =
      ⊎_elim (λ (u, i). with-same x u e (inr (q, (t, omega arith, w)), i)) (λ (u, n). told_same q x F (ih t (le_refl t)) u e) (k.formed x)

  told-init : Told 0
  told-init q x F e = ⊎_elim (λ u. absurd (none-real (sym u ∙ e))) (λ (u, p, i). with-same x u e (inl refl, i)) ((R.init q).formed x)

  pub told : (t : ℕ) → Told t
  told = strong Told step
    where
      step : (n : ℕ) → ((m : ℕ) → m < n → Told m) → Told n
      step zero ih q x F e = told-init q x F e
      step (suc t) ih q x F e = told-step t q (ev t q) refl (R.ok t q) (λ u h. ih u (omega arith)) x F e

  pub adopt-told : {t h : ℕ} {F : Sess} → OkAt R t h (adopt F) → FormedWith t h F
  adopt-told k = adopt-told-by (λ u h. told u) k

  prim-told-step : (t : ℕ) (q : ℕ) (e : Event) → ev t q ≡ e → OkAt R t q e → ((F : Sess) → (st t q).prim ≡ real F → FormedWith t q F) → (F : Sess) → (st (suc t) q).prim ≡ real F → FormedWith (suc t) q F
  prim-told-step t q tidy w k ih F e = with-later (omega arith) (ih F (sym k.still.prim ∙ e))
  prim-told-step t q (enter v) w k ih F e = with-later (omega arith) (ih F (sym k.still.prim ∙ e))
  prim-told-step t q (adopt E) w k ih F e = with-same q k.prim e (with-later (omega arith) (adopt-told k))
  prim-told-step t q (attempt S) w k ih F e = with-later (omega arith) (ih F (sym k.prim ∙ e))
  prim-told-step t q (form E) w k ih F e = with-same q k.prim e (inr (q, (t, omega arith, w)), k.mine)

  pub prim-told : (t q : ℕ) (F : Sess) → (st t q).prim ≡ real F → FormedWith t q F
  prim-told zero q F e = ⊎_elim (λ u. absurd (none-real (sym u ∙ e))) (λ (u, i). with-same q u e (inl refl, i)) (R.init q).prim
  prim-told (suc t) q F e = prim-told-step t q (ev t q) refl (R.ok t q) (prim-told t q) F e
