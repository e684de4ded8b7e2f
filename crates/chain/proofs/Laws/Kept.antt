-- What a head attempted it lists, unless it has a later primary, or that one for primary, or the session is never formed. A clearing is sound by
-- what is true of the marks or, for a denial, by this very law of the other head at an earlier time: so it is a strong induction on time.
use mathlib.Core.Path.{◌≡◌, refl, sym, ap, subst, ◌∙◌}
use mathlib.Core.Logic.{◌⊎◌, inl, inr, ◌≢◌, ⊎_elim}
use Prim.Native.Nat.{ℕ, zero, suc, ◌≤◌, ◌<◌}
use native.Mathlib.Decide.{ℕ_discrete}
use native.Mathlib.Omega.{arith}
use Rattle.loops.proofs.Laws.Order.{lt-or-ge}
use Rattle.chain.specs.Model.{Sess, real, Group, rank_of, Local, Event, tidy, enter, adopt, attempt, form, ClearOk, Denial}
use Rattle.chain.proofs.Laws.Numbers.{strong, compare}
use Rattle.chain.proofs.Laws.Runs.{Run}
use Rattle.chain.proofs.Laws.Grows.{OkAt, ok_of, view-up, prim-up}
use Rattle.chain.proofs.Laws.Attempts.{number_of, Tried, place-num, att-low, att-same, entry-after}
use Rattle.chain.proofs.Laws.Formed.{form-att, judged-later, mark-true, FormedBy, adopt-told}

module _ {G : Group} (R : Run G) where
  open R use {st, ev}

  -- S is formed at no time of the run
  abbrev pub Dead : Sess → Type 0
  Dead S = (f x : ℕ) → ¬ (ev f x ≡ form S)

  pub data Kept (t h : ℕ) (S : Sess) : Type 0 where
    listed : (st t h).places S → Kept t h S
    passed : suc S.number < rank_of (st t h).prim → Kept t h S
    prime : (st t h).prim ≡ real S → Kept t h S
    dead : Dead S → Kept t h S

  abbrev KeptAt : ℕ → Type 0
  KeptAt t = (h : ℕ) (S : Sess) → Tried R t h S → Kept t h S

  abbrev ClearAt : ℕ → ℕ → Sess → Type 1
  ClearAt t h S = ClearOk G (R.Snap t) (R.Att t) h (st t h) (st (suc t) h) S

  abbrev DenialAt : ℕ → ℕ → Sess → Type 1
  DenialAt t h S = Denial G (R.Snap t) (R.Att t) h (st t h) (st (suc t) h) S

  -- a head does not form what it then lists in a later view
  own-unformed : {t h f : ℕ} {S : Sess} → (st t h).places S → (st f h).view < (st t h).view → ev f h ≡ form S → ⊥
  own-unformed {t} {h} {f} {S} p v w = omega (arith, ap rank_of (ok_of R w).prim, prim-up R h (suc f) t before, place-num R t h S p)
    where
      before : f < t
      before = ⊎_elim (λ d. d) (λ g. absurd (omega (arith, view-up R h t f g))) (lt-or-ge f t)

  -- a state that denies S, of a head for which the law holds, shows that S was not formed
  denied : {t h f x u : ℕ} {S : Sess} (d : DenialAt t h S) → ev f x ≡ form S → st u d.who ≡ d.sent → Kept u d.who S → ⊥
  denied {S = S} d w s (listed q) = d.unlisted (subst (λ (m : Local). m.places S) s q)
  denied d w s (passed o) = omega (arith, ap (λ (m : Local). rank_of m.prim) s, d.low)
  denied {S = S} d w s (prime e) = d.other (subst (λ (m : Local). m.prim ≡ real S) s e)
  denied {f = f} {x = x} d w s (dead g) = g f x w

  -- a cleared session is dead
  clear-dead : (t h : ℕ) (S : Sess) → ((u : ℕ) → u ≤ t → KeptAt u) → (st t h).places S → ClearAt t h S → Dead S
  clear-dead t h S ih p k f x w = ⊎_elim (λ m. marked m (ℕ_discrete x h)) denial k.why
    where
      later : (st f x).view < (st t h).view
      later = judged-later R p k.early w

      marked : ((x : ℕ) → G.In x S.heads → x ≢ h → (st t h).marks S x) → Dec (x ≡ h) → ⊥
      marked m (yes e) = own-unformed p (subst (λ z. (st f z).view < (st t h).view) e later) (subst (λ z. ev f z ≡ form S) e w)
      marked m (no n) = mark-true R t h x S (m x (ok_of R w).mine n) f w

      denial : DenialAt t h S → ⊥
      denial d =
          let (b, g, z, u) = form-att R w d.who d.member in
          let (c, l, (e, s)) = R.snap-by d.snap in
          let m : b ≤ c = entry-after R b e (omega (arith, later)) in
          denied d w s (ih (suc c) l d.who S (b, omega arith, z))

  kept_same : {t h : ℕ} {S : Sess} → ((st t h).places S → Kept (suc t) h S) → (st (suc t) h).prim ≡ (st t h).prim → Kept t h S → Kept (suc t) h S
  kept_same f e (listed p) = f p
  kept_same f e (passed o) = passed (omega (arith, ap rank_of e))
  kept_same f e (prime p) = prime (e ∙ p)
  kept_same f e (dead d) = dead d

  -- a formed session with h, of the number of one that h attempted, is that one
  attempt-met : {t a h : ℕ} {S F : Sess} → ev a h ≡ attempt S → FormedBy R t F × G.In h F.heads → S.number ≡ F.number → S ≡ F
  attempt-met z (inl c, i) n = absurd (omega (arith, number_of c, (ok_of R z).own))
  attempt-met {h = h} z (inr (x, (f, u, g)), i) n = let (b, _, q, _) = form-att R g h i in (att-same R z q n).1

  kept-adopt : {t a h : ℕ} {S F : Sess} → OkAt R t h (adopt F) → ev a h ≡ attempt S → Kept t h S → Kept (suc t) h S
  kept-adopt {t} {a} {h} {S} {F} k z (listed p) = ⊎_elim listed (λ l. cleared l (compare S.number F.number)) (k.keep S p)
    where
      cleared : S.number ≤ F.number → (S.number < F.number) ⊎ ((S.number ≡ F.number) ⊎ (F.number < S.number)) → Kept (suc t) h S
      cleared l (inl o) = passed (omega (arith, ap rank_of k.prim))
      cleared l (inr (inl n)) = prime (k.prim ∙ ap real (sym (attempt-met z (adopt-told R k) n)))
      cleared l (inr (inr o)) = absurd (omega arith)
  kept-adopt k z (passed o) = passed (omega (arith, ap rank_of k.prim, k.above))
  kept-adopt k z (prime e) = passed (omega (arith, ap rank_of k.prim, k.above, ap rank_of e))
  kept-adopt k z (dead g) = dead g

  kept-form : {t a h : ℕ} {S T : Sess} → ev t h ≡ form T → ev a h ≡ attempt S → a < t → Kept (suc t) h S
  kept-form {t} {a} {h} {S} {T} w z d = go (compare S.number T.number)
    where
      k : OkAt R t h (form T)
      k = ok_of R w

      go : (S.number < T.number) ⊎ ((S.number ≡ T.number) ⊎ (T.number < S.number)) → Kept (suc t) h S
      go (inl o) = passed (omega (arith, ap rank_of k.prim))
      go (inr (inl n)) = let (b, _, q, _) = form-att R w h k.mine in prime (k.prim ∙ ap real (sym (att-same R z q n).1))
      go (inr (inr o)) = absurd (omega (arith, att-low R t z d, k.number))

  kept_step : (t h : ℕ) (S : Sess) (e : Event) → ev t h ≡ e → OkAt R t h e → ((u : ℕ) → u ≤ t → KeptAt u) → Tried R t h S → Kept t h S → Kept (suc t) h S
  kept_step t h S tidy w k ih z y = kept_same (λ p. ⊎_elim listed (λ c. dead (clear-dead t h S ih p c)) (k.keep S p)) k.still.prim y
  kept_step t h S (enter v) w k ih z y = kept_same (λ p. listed (k.keep S p)) k.still.prim y
  kept_step t h S (adopt F) w k ih (a, d, z) y = kept-adopt k z y
  kept_step t h S (attempt T) w k ih z y = kept_same (λ p. listed (k.keep S p)) k.prim y
  kept_step t h S (form T) w k ih (a, d, z) y = kept-form w z d

  pub kept : (t : ℕ) → KeptAt t
  kept = strong KeptAt step
    where
      step : (n : ℕ) → ((m : ℕ) → m < n → KeptAt m) → KeptAt n
      step zero ih h S (a, d, z) = absurd (omega arith)
      step (suc t) ih h S (a, d, z) = go (compare a t)
        where
          go : (a < t) ⊎ ((a ≡ t) ⊎ (t < a)) → Kept (suc t) h S
          go (inl o) = kept_step t h S (ev t h) refl (R.ok t h) (λ u l. ih u (omega arith)) (a, o, z) (ih t (omega arith) h S (a, o, z))
          go (inr (inl e)) = listed (ok_of R (rw e at z)).placed
          go (inr (inr o)) = absurd (omega arith)
