-- The chain over runs, by induction on numbers. Let S be formed on the best primary P that it weighed. Every formed F with P's number or more and
-- below S's passes against S: F and S each pass against one session (F's own best, or P), so they share a head; that head attempted both,
-- so S weighed F. Two formed sessions of one number then share a head too, which attempted one session of that number.
use mathlib.Core.Path.{◌≡◌, refl, sym, ap, subst, ◌∙◌}
use mathlib.Core.Logic.{◌⊎◌, inl, inr, ⊎_elim}
use Prim.Native.Nat.{ℕ, suc, ◌≤◌, ◌<◌}
use native.Mathlib.Nat.{le_refl}
use native.Mathlib.Omega.{arith}
use Rattle.loops.proofs.Laws.Order.{lt-or-ge}
use Rattle.chain.specs.Model.{Sess, real, Group, Lawful, Meet, core_sess, rank_of, Local, attempt, form, Heard}
use Rattle.chain.proofs.Laws.Numbers.{strong, compare}
use Rattle.chain.proofs.Laws.Runs.{Run}
use Rattle.chain.proofs.Laws.Grows.{OkAt, ok_of, prim-num}
use Rattle.chain.proofs.Laws.Attempts.{number_of, att-order, att-same, att-before, entry-after}
use Rattle.chain.proofs.Laws.Formed.{form-att, FormedBy, formed-later, prim-told}
use Rattle.chain.proofs.Laws.Kept.{Kept, listed, passed, prime, dead, kept}

module _ {G : Group} (K : Lawful G) (R : Run G) where
  open R use {st, ev}

  -- F is the core group's session, or is formed at some time of the run
  abbrev Formed : Sess → Type 0
  Formed F = (F ≡ core_sess G) ⊎ ((f : ℕ) × (x : ℕ) × (ev f x ≡ form F))

  formed-any : {t : ℕ} {F : Sess} → FormedBy R t F → Formed F
  formed-any (inl e) = inl e
  formed-any (inr (x, (f, d, w))) = inr (f, x, w)

  abbrev Pass : Sess → Sess → Type 0
  Pass S T = G.passes S.heads T.heads

  -- ---- what the attempt behind a form has weighed

  record Base (f : ℕ) (S : Sess) : Type 0 where
    best : Sess
    formed : FormedBy R f best
    low : best.number < S.number
    pass : Pass best S
    climb : (F : Sess) (g z : ℕ) → ev g z ≡ form F → best.number < F.number → F.number < S.number → Meet G F.heads S.heads → Pass F S

  -- p formed S at time f, and attempted it at time a
  module _ (f p : ℕ) (S : Sess) (w : ev f p ≡ form S) (a : ℕ) (d : a < f) (u : ev a p ≡ attempt S) (v : (st a p).view ≡ (st f p).view) where
    -- the state that p weighed for x
    abbrev HeardOf : ℕ → Type 1
    HeardOf x = Heard G (R.Snap a) (R.Att a) p (st a p) (st (suc a) p) x

    -- it stands at some time up to the attempt
    heard-time : {x : ℕ} (k : HeardOf x) → (t : ℕ) × (t ≤ a) × (k.state ≡ st t x)
    heard-time {x} k = ⊎_elim (λ (e, s). (a, le_refl a, rw e s)) (λ n. let (c, h, (z, s)) = R.snap-by n in (suc c, h, sym s)) k.why

    -- what a member x attempted with a lower number came before it
    heard-after : {x b : ℕ} {F : Sess} (k : HeardOf x) → ev b x ≡ attempt F → F.number < S.number → G.In x S.heads → (t : ℕ) × (b < t) × (k.state ≡ st t x)
    heard-after {x} {b} {F} k z l i =
        ⊎_elim
        (λ (e, s). (a, att-before R (rw e at z) u l, rw e s))
        (λ n. let (c, h, (y, s)) = R.snap-by n in (suc c, omega (arith, entry-after R b y lower), sym s))
        k.why
      where
        lower : (st b x).view < (st a p).view
        lower = let (n, m, q, e) = form-att R w x i in omega (arith, (att-order R z q (att-before R z q l)).1)

    base-of : Base f S
    base-of = record { best = k.best; formed = was; low = small; pass = k.pass; climb = up }
      where
        k : OkAt R a p (attempt S)
        k = ok_of R u

        was : FormedBy R f k.best
        was =
            let (x, i, e) = k.best-from in
            let (t, h, s) = heard-time (k.hear x i) in
            formed-later R (omega arith) (prim-told R t x k.best (subst (λ (m : Local). m.prim ≡ real k.best) s e)).0

        small : k.best.number < S.number
        small =
            let (x, i, e) = k.best-from in
            let (t, h, s) = heard-time (k.hear x i) in
            omega (arith, prim-num R t x, ap rank_of e, ap (λ (m : Local). rank_of m.prim) s, ap (λ (m : Local). m.num) s, k.high x i)

        -- a head of F and S attempted F, and lists it in what S weighed
        up : (F : Sess) (g z : ℕ) → ev g z ≡ form F → k.best.number < F.number → F.number < S.number → Meet G F.heads S.heads → Pass F S
        up F g z y lo hi (x, i_f, i_s) =
            let (b, _, q, _) = form-att R y x i_f in
            let (t, h, s) = heard-after (k.hear x i_s) q hi i_s in
            weighed t s (kept R t x F (b, h, q))
          where
            weighed : (t : ℕ) → (k.hear x i_s).state ≡ st t x → Kept R t x F → Pass F S
            weighed t s (listed l) = k.weigh x i_s F (subst (λ (m : Local). m.places F) (sym s) l) (omega (arith, lo))
            weighed t s (passed o) = absurd (omega (arith, k.best-top x i_s, ap (λ (m : Local). rank_of m.prim) s))
            weighed t s (prime e) = absurd (omega (arith, k.best-top x i_s, ap (λ (m : Local). rank_of m.prim) s, ap rank_of e))
            weighed t s (dead n) = absurd (n g z y)

  base : {f p : ℕ} {S : Sess} → ev f p ≡ form S → Base f S
  base {f} {p} {S} w = let (a, d, u, v) = form-att R w p (ok_of R w).mine in base-of f p S w a d u v

  -- ---- the induction

  -- S, formed with number n, is passed by every formed session from its base up; and no other is formed with number n
  abbrev Above : ℕ → Type 0
  Above n = (f p : ℕ) (S : Sess) (w : ev f p ≡ form S) → S.number ≡ n → (F : Sess) → Formed F → (base w).best.number ≤ F.number → F.number < n → Pass F S

  abbrev Alone : ℕ → Type 0
  Alone n = (f p g q : ℕ) (S T : Sess) → ev f p ≡ form S → ev g q ≡ form T → S.number ≡ n → T.number ≡ n → S ≡ T

  abbrev Below : ℕ → Type 0
  Below n = (m : ℕ) → m < n → Above m × Alone m

  positive : {f p : ℕ} {S : Sess} → ev f p ≡ form S → 0 < S.number
  positive w = omega (arith, (base w).low)

  -- formed sessions of one number below n are one
  alone-below : (n : ℕ) → Below n → (F E : Sess) → Formed F → Formed E → F.number ≡ E.number → F.number < n → F ≡ E
  alone-below n ih F E (inl a) (inl b) e l = a ∙ sym b
  alone-below n ih F E (inl a) (inr (f, x, w)) e l = absurd (omega (arith, positive w, number_of a))
  alone-below n ih F E (inr (f, x, w)) (inl b) e l = absurd (omega (arith, positive w, number_of b))
  alone-below n ih F E (inr (f, x, w)) (inr (g, y, z)) e l = (ih F.number l).1 f x g y F E w z refl (sym e)

  -- two formed sessions that share a head and have one number are one
  shared-one : {f p g q : ℕ} {S T : Sess} → ev f p ≡ form S → ev g q ≡ form T → S.number ≡ T.number → Meet G S.heads T.heads → S ≡ T
  shared-one w z e (x, i, j) =
      let (a, _, u, _) = form-att R w x i in
      let (b, _, v, _) = form-att R z x j in
      (att-same R u v e).1

  module _ (n : ℕ) (ih : Below n) where
    module _ (f p : ℕ) (S : Sess) (w : ev f p ≡ form S) (s : S.number ≡ n) where
      abbrev Goal : ℕ → Type 0
      Goal m = (F : Sess) → Formed F → F.number ≡ m → (base w).best.number ≤ m → m < n → Pass F S

      -- F is S's base, or has a higher number and shares a head with S
      above_step : (m : ℕ) → ((j : ℕ) → j < m → Goal j) → Goal m
      above_step m ihm F c e lo hi = go c (compare (base w).best.number m)
        where
          go : Formed F → ((base w).best.number < m) ⊎ (((base w).best.number ≡ m) ⊎ (m < (base w).best.number)) → Pass F S
          go c (inr (inr o)) = absurd (omega arith)
          go c (inr (inl o)) =
              subst (λ (E : Sess). Pass E S) (alone-below n ih (base w).best F (formed-any (base w).formed) c (omega arith) (omega arith)) (base w).pass
          go (inl a) (inl o) = absurd (omega (arith, number_of a))
          go (inr (g, z, y)) (inl o) = (base w).climb F g z y (omega arith) (omega arith) (⊎_elim from-below from-above (lt-or-ge (base y).best.number (base w).best.number))
            where
              from-below : (base y).best.number < (base w).best.number → Meet G F.heads S.heads
              from-below l = K.passes-meet _ _ _ ((ih m hi).0 g z F y e (base w).best (formed-any (base w).formed) (omega arith) o) (base w).pass

              from-above : (base w).best.number ≤ (base y).best.number → Meet G F.heads S.heads
              from-above l =
                  K.passes-meet _ _ _ (base y).pass
                  (ihm (base y).best.number (omega (arith, (base y).low)) (base y).best (formed-any (base y).formed) refl l (omega (arith, (base y).low)))

    above : Above n
    above f p S w s F c lo hi = strong (Goal f p S w s) (above_step f p S w s) F.number F c refl lo hi

    alone : Alone n
    alone f p g q S T w z s t = shared-one w z (s ∙ sym t) (⊎_elim first second (lt-or-ge (base z).best.number (base w).best.number))
      where
        first : (base z).best.number < (base w).best.number → Meet G S.heads T.heads
        first l = K.passes-meet _ _ _ (base w).pass (above g q T z t (base w).best (formed-any (base w).formed) (omega arith) (omega (arith, (base w).low)))

        second : (base w).best.number ≤ (base z).best.number → Meet G S.heads T.heads
        second l = K.passes-meet _ _ _ (above f p S w s (base z).best (formed-any (base z).formed) l (omega (arith, (base z).low))) (base z).pass

  all : (n : ℕ) → Above n × Alone n
  all = strong (λ n. Above n × Alone n) (λ n ih. (above n ih, alone n ih))

  -- ---- the theorem

  pub unique : (t : ℕ) (F E : Sess) → FormedBy R t F → FormedBy R t E → F.number ≡ E.number → F ≡ E
  unique t F E a b e = alone-below (suc F.number) (λ m h. all m) F E (formed-any a) (formed-any b) e (omega arith)

  formed-enough : {F : Sess} → Formed F → G.enough F.heads
  formed-enough (inl e) = subst (λ (E : Sess). G.enough E.heads) (sym e) K.core-enough
  formed-enough (inr (f, x, w)) = K.passes-enough _ _ (base w).pass

  pub chain : (t : ℕ) (F E : Sess) → FormedBy R t F → FormedBy R t E → F.number < E.number
      → ((D : Sess) → FormedBy R t D → F.number < D.number → D.number < E.number → ⊥) → Meet G F.heads E.heads
  chain t F E a (inl b) l n = absurd (omega (arith, number_of b))
  chain t F E a (inr (y, (g, d, w))) l n = K.enough-meet _ _ (formed-enough (formed-any a)) ((all E.number).0 g y E w refl F (formed-any a) under l)
    where
      -- E's base is no later than F: nothing was formed between F and E
      under : (base w).best.number ≤ F.number
      under = ⊎_elim (λ h. absurd (n (base w).best (formed-later R (omega arith) (base w).formed) h (base w).low)) (λ h. h) (lt-or-ge F.number (base w).best.number)
