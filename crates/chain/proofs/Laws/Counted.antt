-- No more numbers than views: let c count views so that each view that has a member counts above every lower one. Then a head's session number is at most the count
-- of its view, and below it until the head attempts there: entering raises the count, what it adopts is below it, and an attempt goes one above such a number.
use mathlib.Core.Path.{◌≡◌, refl, sym, ap, subst}
use mathlib.Core.Logic.{◌⊎◌, inl, inr, ⊎_elim}
use Prim.Native.Nat.{ℕ, suc, ◌≤◌, ◌<◌}
use native.Mathlib.Decide.{ℕ_discrete}
use native.Mathlib.Omega.{arith}
use Rattle.chain.specs.Model.{Sess, Group, rank_of, Local, Event, tidy, enter, adopt, attempt, form, Init, Ok}
use Rattle.chain.specs.Reach.{Hist, start, more, now, Sent, sent, sent-before, Attempted, Formed, formed-core, formed-now, formed-before, Valid, begin, step}
use Rattle.chain.specs.World.{World, Reached}
use Rattle.chain.proofs.Laws.Reach.{now-same, now-other}
use Rattle.chain.proofs.Laws.World.{formed-back, behind}

-- a line sent after the last change was sent before it, or by it
sent_back : {H : Hist} {p : ℕ} {e : Event} {l : Local} (x v : ℕ) (m : Local) → Sent (more H p e l) x v m → Sent H x v m ⊎ ((e ≡ enter v) × (m ≡ l))
sent_back {H} {p} {e} {l} x v m w = go (more H p e l) x v m w refl
  where
    prev : Hist → Hist
    prev (start s) = start s
    prev (more K q d n) = K

    last : Hist → Event
    last (start s) = e
    last (more K q d n) = d

    state : Hist → Local
    state (start s) = l
    state (more K q d n) = n

    go : (K : Hist) (x v : ℕ) (m : Local) → Sent K x v m → K ≡ more H p e l → Sent H x v m ⊎ ((e ≡ enter v) × (m ≡ l))
    go K x v m sent q = inr (sym (ap last q), ap state q)
    go K x v m (sent-before w) q = inl (subst (λ z. Sent z x v m) (ap prev q) w)

module _ (G : Group) (c : ℕ → ℕ) (up : (u v x : ℕ) → u < v → G.In x (G.members v) → c u < c v) where
  -- a state sent in view v: its number is below the count, and no last formed session's is above its own
  record Line (v : ℕ) (m : Local) : Type 0 where
    num : m.num < c v
    formed : (x : ℕ) → rank_of (m.formed x) ≤ suc m.num

  record Head (l : Local) : Type 0 where
    num : l.num ≤ c l.view
    early : l.tried < l.view → l.num < c l.view
    formed : (x : ℕ) → rank_of (l.formed x) ≤ suc l.num

  record Counted (H : Hist) : Type 1 where
    head : (x : ℕ) → Head (now H x)
    line : (x v : ℕ) (m : Local) → Sent H x v m → Line v m
    formed : (F : Sess) → Formed G H F → (v : ℕ) × (F.number ≤ c v)

  -- ---- a change of head h

  module _ (H : Hist) (k : Counted H) (h : ℕ) (l l' : Local) (o : Head l) where
    abbrev OkBy : Event → Type 1
    OkBy e = Ok G (Sent H) (Attempted H) h l l' e

    attempted-low : (S : Sess) → OkBy (attempt S) → S.number ≤ c l.view
    attempted-low S a =
        let (x, i, e) = a.tight in
        let below : (a.hear x i).state.num < c l.view =
        ⊎_elim (λ (z, y). omega (arith, ap (λ (m : Local). m.num) y, o.early a.early)) (λ s. (k.line x l.view (a.hear x i).state s).num) (a.hear x i).why in
        omega (arith, e)

    adopted-low : (F : Sess) (a : OkBy (adopt F)) → F.number < c l.view
    adopted-low F a =
        let s = k.line a.who l.view a.sent a.snap in
        omega (arith, s.num, s.formed h, ap rank_of a.told)

    head-next : (e : Event) → OkBy e → Head l'
    head-next tidy a =
        let v : c l'.view ≡ c l.view = ap c a.view in
        record {
          num = omega (arith, v, a.still.num, o.num);
          early = λ t. omega (arith, v, a.still.num, o.early (omega (arith, a.view, a.still.tried)));
          formed = λ x. omega (arith, a.still.num, ap rank_of (a.still.formed x), o.formed x);
        }
    head-next (enter v) a =
        let w : c l'.view ≡ c v = ap c a.view in
        let g : c l.view < c v = up l.view v h a.up a.mine in
        record {
          num = omega (arith, w, a.still.num, o.num);
          early = λ t. omega (arith, w, a.still.num, o.num);
          formed = λ x. omega (arith, a.still.num, ap rank_of (a.still.formed x), o.formed x);
        }
    head-next (adopt F) a =
        let v : c l'.view ≡ c l.view = ap c a.view in
        let n : l'.num < c l.view = ⊎_elim (λ d. omega (arith, o.early a.early)) (λ d. omega (arith, adopted-low F a)) a.num-top in
        record {
          num = omega (arith, v);
          early = λ t. omega (arith, v);
          formed = λ x.
              ⊎_elim (λ (e, i). omega (arith, ap rank_of e, a.num-low)) (λ e. omega (arith, ap rank_of e, o.formed x, a.num-up)) (a.formed x);
        }
    head-next (attempt S) a =
        let v : c l'.view ≡ c l.view = ap c a.view in
        record {
          num = omega (arith, v, a.num, attempted-low S a);
          early = λ t. absurd (omega (arith, a.tried, a.view));
          formed = λ x. omega (arith, ap rank_of (a.formed x), o.formed x, a.num, a.own);
        }
    head-next (form S) a =
        let v : c l'.view ≡ c l.view = ap c a.view in
        record {
          num = omega (arith, v, a.num, o.num);
          early = λ t. omega (arith, v, a.num, o.early (omega (arith, a.view, a.tried)));
          formed = λ x.
              ⊎_elim (λ (e, i). omega (arith, ap rank_of e, a.number, a.num)) (λ (e, n). omega (arith, ap rank_of e, o.formed x, a.num)) (a.formed x);
        }

    line-next : (v : ℕ) → OkBy (enter v) → Line v l'
    line-next v a =
        let n = head-next (enter v) a in
        let g : c l.view < c v = up l.view v h a.up a.mine in
        record { num = omega (arith, a.still.num, o.num); formed = n.formed }

    formed-next : (F : Sess) → OkBy (form F) → (v : ℕ) × (F.number ≤ c v)
    formed-next F a = (l.view, omega (arith, a.number, o.num))

  counted-more : (H : Hist) (h : ℕ) (e : Event) (l : Local) → Counted H → Ok G (Sent H) (Attempted H) h (now H h) l e → Counted (more H h e l)
  counted-more H h e l k a = record {
    head = λ x. go x (ℕ_discrete x h);
    line = λ x v m w.
        ⊎_elim (k.line x v m)
        (λ (q, y). subst (Line v) (sym y) (line-next H k h (now H h) l (k.head h) v (subst (λ z. Ok G (Sent H) (Attempted H) h (now H h) l z) q a)))
        (sent_back x v m w);
    formed = λ F w.
        ⊎_elim (k.formed F)
        (λ q. formed-next H k h (now H h) l (k.head h) F (subst (λ z. Ok G (Sent H) (Attempted H) h (now H h) l z) q a))
        (formed-back G F w);
  }
    where
      go : (x : ℕ) → Dec (x ≡ h) → Head (now (more H h e l) x)
      go x (yes q) = subst (λ z. Head (now (more H h e l) z)) (sym q) (subst Head (sym (now-same H h e l)) (head-next H k h (now H h) l (k.head h) e a))
      go x (no n) = subst Head (sym (now-other H h e l x n)) (k.head x)

  counted_start : (s : ℕ → Local) → ((h : ℕ) → Init G h (s h)) → Counted (start s)
  unfolding now
  counted_start s i = record {
    head = λ x. record {
      num = omega (arith, (i x).num);
      early = λ t. absurd (omega (arith, (i x).view));
      formed = λ y. ⊎_elim (λ e. omega (arith, ap rank_of e)) (λ (e, p, z). omega (arith, ap rank_of e)) ((i x).formed y);
    };
    line = λ x v m w. absurd (unsent (start s) x v m w refl);
    formed = λ F w. (0, unformed (start s) F w refl);
  }
    where
      Fam : Hist → Type 0
      Fam (start s) = Unit {0}
      Fam (more H h e l) = ⊥

      unsent : (K : Hist) (x v : ℕ) (m : Local) → Sent K x v m → K ≡ start s → ⊥
      unsent K x v m sent e = subst Fam (sym e) tt
      unsent K x v m (sent-before w) e = subst Fam (sym e) tt

      unformed : (K : Hist) (F : Sess) → Formed G K F → K ≡ start s → F.number ≤ c 0
      unformed K F formed-core e = omega arith
      unformed K F formed-now e = absurd (subst Fam (sym e) tt)
      unformed K F (formed-before w) e = absurd (subst Fam (sym e) tt)

  counted : {H : Hist} → Valid G H → Counted H
  counted (begin {s = s} i) = counted_start s i
  counted (step {H = H} {h = h} {e = e} {l = l} v a) = counted-more H h e l (counted v) a

  -- A formed session's number is at most the count of some view.
  pub formed-counted : {W : World} → Reached G W → (F : Sess) → W.formed F → (v : ℕ) × (F.number ≤ c v)
  formed-counted r F w = let (H, i) = behind G r in (counted i.valid).formed F (i.formed F w)
