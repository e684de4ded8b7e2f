-- Every history is a run: at time t it is what its first t changes made. So the chain over runs holds of it, and what holds of a head at every
-- time of a run holds of it now.
use mathlib.Core.Path.{◌≡◌, refl, sym, ap, subst, ◌∙◌}
use mathlib.Core.Logic.{◌⊎◌, inl, inr, ⊎_elim}
use mathlib.Core.Bool.{Bool, ◌&&◌, cond}
use Prim.Native.Nat.{ℕ, suc, ◌≤◌, ◌<◌}
use native.Mathlib.Decide.{ℕ_discrete}
use native.Mathlib.Nat.{le_refl}
use native.Mathlib.Omega.{arith}
use lib.Dec.{leb, ltb, eqb}
use borrow.Author.Tests.{le-leb, lt-leb, lt-ltb, le-ltb, eq-eqb, ne_eqb}
use Rattle.loops.proofs.Laws.Order.{lt-or-ge}
use Rattle.chain.specs.Model.{Sess, Group, Lawful, Meet, core_sess, Local, Event, tidy, enter, attempt, form, Init, Ok}
use Rattle.chain.specs.Reach.{Hist, start, more, now, Sent, sent, sent-before, Attempted, attempted, attempted-before, Formed, formed-core, formed-now, formed-before, Valid, begin, step}
use Rattle.chain.specs.Safety.{Safe}
use Rattle.chain.proofs.Laws.Numbers.{compare}
use Rattle.chain.proofs.Laws.Runs.{Run, By, Entry, Attempt, Form}
use Rattle.chain.proofs.Laws.Grows.{tried-view}
use Rattle.chain.proofs.Laws.Chain as chains
use Rattle.chain.proofs.Laws.Listed.{safe-by}

-- ---- a head's present state

pub now-same : (H : Hist) (h : ℕ) (e : Event) (l : Local) → now (more H h e l) h ≡ l
unfolding now
now-same H h e l = ap (λ (b : Bool). cond b l (now H h)) (eq-eqb h h refl)

pub now-other : (H : Hist) (h : ℕ) (e : Event) (l : Local) (q : ℕ) → ¬ (q ≡ h) → now (more H h e l) q ≡ now H q
unfolding now
now-other H h e l q n = ap (λ (b : Bool). cond b l (now H q)) (ne_eqb q h n)

-- ---- the first t changes, and the change that q makes next

len : Hist → ℕ
len (start s) = 0
len (more H h e l) = suc (len H)

prefix : Hist → ℕ → Hist
prefix (start s) t = start s
prefix (more H h e l) t = cond (leb t (len H)) (prefix H t) (more H h e l)

event : Hist → ℕ → ℕ → Event
event (start s) t q = tidy
event (more H h e l) t q = cond (ltb t (len H)) (event H t q) (cond (eqb t (len H) && eqb q h) e tidy)

abbrev state : Hist → ℕ → ℕ → Local
state H t q = now (prefix H t) q

module _ (H : Hist) (h : ℕ) (e : Event) (l : Local) where
  abbrev H' : Hist
  H' = more H h e l

  prefix-old : (t : ℕ) → t ≤ len H → prefix H' t ≡ prefix H t
  unfolding prefix
  prefix-old t d = ap (λ (b : Bool). cond b (prefix H t) H') (le-leb t (len H) d)

  prefix-new : (t : ℕ) → len H < t → prefix H' t ≡ H'
  unfolding prefix
  prefix-new t d = ap (λ (b : Bool). cond b (prefix H t) H') (lt-leb t (len H) d)

  event-old : (t q : ℕ) → t < len H → event H' t q ≡ event H t q
  unfolding event
  event-old t q d = simp (lt-ltb t (len H) d)

  event-late : (t q : ℕ) → len H < t → event H' t q ≡ tidy
  unfolding event
  event-late t q d = simp (le-ltb t (len H) (omega arith), ne_eqb t (len H) (omega arith))

  event-now : event H' (len H) h ≡ e
  unfolding event
  event-now = simp (le-ltb (len H) (len H) (le_refl _), eq-eqb (len H) (len H) refl, eq-eqb h h refl)

  event-other : (q : ℕ) → ¬ (q ≡ h) → event H' (len H) q ≡ tidy
  unfolding event
  event-other q n = simp (le-ltb (len H) (len H) (le_refl _), eq-eqb (len H) (len H) refl, ne_eqb q h n)

prefix-all : (H : Hist) (t : ℕ) → len H ≤ t → prefix H t ≡ H
unfolding prefix len
prefix-all (start s) t d = refl
prefix-all (more H h e l) t d = prefix-new H h e l t d

prefix-last : (H : Hist) (h : ℕ) (e : Event) (l : Local) → prefix (more H h e l) (len H) ≡ H
prefix-last H h e l = prefix-old H h e l (len H) (le_refl _) ∙ prefix-all H (len H) (le_refl _)

-- ---- what was sent and attempted, by time

module _ {ℓ} (Q : Event → Local → Local → Type ℓ) where
  -- one of the first t changes of head x of the history is as Q says
  abbrev Done : Hist → ℕ → ℕ → Type ℓ
  Done H t x = By Q (state H) (event H) t x

  done-later : (H : Hist) (t u x : ℕ) → t ≤ u → Done H t x → Done H u x
  done-later H t u x h (c, d, k) = (c, omega arith, k)

  done-before : (H : Hist) (h : ℕ) (e : Event) (l : Local) (t x : ℕ) → t ≤ len H → Done H t x → Done (more H h e l) t x
  done-before H h e l t x d (c, a, k) = (
    c,
    a,
    subst (λ z. Q z (state (more H h e l) c x) (state (more H h e l) (suc c) x)) (sym (event-old H h e l c x (omega arith)))
        (subst (λ z. Q (event H c x) (now z x) (state (more H h e l) (suc c) x)) (sym (prefix-old H h e l c (omega arith)))
        (subst (λ z. Q (event H c x) (state H c x) (now z x)) (sym (prefix-old H h e l (suc c) (omega arith))) k)),
  )

  done-now : (H : Hist) (h : ℕ) (e : Event) (l : Local) → Q e (now H h) l → Done (more H h e l) (suc (len H)) h
  done-now H h e l k = (
    len H,
    le_refl _,
    subst (λ z. Q z (state (more H h e l) (len H) h) (state (more H h e l) (suc (len H)) h)) (sym (event-now H h e l))
        (subst (λ z. Q e (now z h) (state (more H h e l) (suc (len H)) h)) (sym (prefix-last H h e l))
        (subst (λ z. Q e (now H h) z) (sym (ap (λ z. now z h) (prefix-new H h e l (suc (len H)) (le_refl _)) ∙ now-same H h e l)) k)),
  )

  done_more : (H : Hist) (h : ℕ) (e : Event) (l : Local) (x : ℕ) → Done H (len H) x → Done (more H h e l) (suc (len H)) x
  done_more H h e l x k = done-later (more H h e l) (len H) (suc (len H)) x (omega arith) (done-before H h e l (len H) x (le_refl _) k)

  -- what histories with P have done by their end, a history whose first t changes have P has done by time t
  done-prefix {κ} : (P : Hist → Type κ) (x : ℕ) → ((H : Hist) → P H → Done H (len H) x) → (H : Hist) (t : ℕ) → P (prefix H t) → Done H t x
  unfolding prefix len
  done-prefix P x f (start s) t w = done-later (start s) 0 t x (omega arith) (f (start s) w)
  done-prefix P x f (more H h e l) t w =
      ⊎_elim
      (λ d. done-later (more H h e l) (suc (len H)) t x d (f (more H h e l) (subst P (prefix-new H h e l t d) w)))
      (λ d. done-before H h e l t x d (done-prefix P x f H t (subst P (prefix-old H h e l t d) w)))
      (lt-or-ge (len H) t)

sent-by : (x v : ℕ) (m : Local) (H : Hist) → Sent H x v m → Done (Entry v m) H (len H) x
unfolding len
sent-by x v m _ (sent {H = H} {l = l}) = done-now (Entry v m) H x (enter v) l (refl, refl)
sent-by x v m _ (sent-before {H = H} {h = h} {e = e} {l = l} w) = done_more (Entry v m) H h e l x (sent-by x v m H w)

attempted-by : (x v : ℕ) (H : Hist) → Attempted H x v → Done (Attempt v) H (len H) x
unfolding len
attempted-by x v _ (attempted {H = H} {S = S} {l = l} p) = done-now (Attempt v) H x (attempt S) l (S, refl, p)
attempted-by x v _ (attempted-before {H = H} {h = h} {e = e} {l = l} w) = done_more (Attempt v) H h e l x (attempted-by x v H w)

-- ---- what is allowed, by time

-- nothing happens
idle : {G : Group} {Snap : ℕ → ℕ → Local → Type 1} {Att : ℕ → ℕ → Type 1} {h : ℕ} {l : Local} → Ok G Snap Att h l l tidy
idle = record {
  view = refl;
  still = record { num = refl; tried = refl; prim = refl; formed = λ x. refl };
  shrink = λ S p. p;
  keep = λ S p. inl p;
  marks = λ S x p. inl p;
}

-- change e of head q, from history A to history B
abbrev OkFor : Group → ℕ → Hist → Hist → Event → Type 1
OkFor G q A B e = Ok G (Sent A) (Attempted A) q (now A q) (now B q) e

ok-to : (G : Group) (q : ℕ) {A A' B B' : Hist} {e e' : Event} → A' ≡ A → B' ≡ B → e' ≡ e → OkFor G q A B e → OkFor G q A' B' e'
ok-to G q {A} {A'} {B} {B'} {e} p r s k = subst (λ z. OkFor G q A' B' z) (sym s) (subst (λ z. OkFor G q A' z e) (sym r) (subst (λ z. OkFor G q z B e) (sym p) k))

abbrev OkIn : Group → Hist → ℕ → ℕ → Type 1
OkIn G H t q = OkFor G q (prefix H t) (prefix H (suc t)) (event H t q)

module _ (G : Group) (H : Hist) (h : ℕ) (e : Event) (l : Local) where
  -- at the last change h does e, and the others nothing
  ok-now : Ok G (Sent H) (Attempted H) h (now H h) l e → (q : ℕ) → Dec (q ≡ h) → OkIn G (more H h e l) (len H) q
  ok-now k q (yes r) =
      subst (λ z. OkIn G (more H h e l) (len H) z) (sym r) (ok-to G h (prefix-last H h e l) (prefix-new H h e l (suc (len H)) (le_refl _)) (event-now H h e l)
      (subst (λ z. Ok G (Sent H) (Attempted H) h (now H h) z e) (sym (now-same H h e l)) k))
  ok-now k q (no n) =
      ok-to G q (prefix-last H h e l) (prefix-new H h e l (suc (len H)) (le_refl _)) (event-other H h e l q n)
      (subst (λ z. Ok G (Sent H) (Attempted H) q (now H q) z tidy) (sym (now-other H h e l q n)) idle)

  ok_step : ((t q : ℕ) → OkIn G H t q) → Ok G (Sent H) (Attempted H) h (now H h) l e → (t q : ℕ) → OkIn G (more H h e l) t q
  ok_step ih k t q = go (compare t (len H))
    where
      go : (t < len H) ⊎ ((t ≡ len H) ⊎ (len H < t)) → OkIn G (more H h e l) t q
      go (inl d) = ok-to G q (prefix-old H h e l t (omega arith)) (prefix-old H h e l (suc t) d) (event-old H h e l t q d) (ih t q)
      go (inr (inl d)) = subst (λ z. OkIn G (more H h e l) z q) (sym d) (ok-now k q (ℕ_discrete q h))
      go (inr (inr d)) = ok-to G q (prefix-new H h e l t d) (prefix-new H h e l (suc t) (omega arith)) (event-late H h e l t q d) idle

ok-hist : {G : Group} {H : Hist} → Valid G H → (t q : ℕ) → OkIn G H t q
unfolding prefix event
ok-hist (begin i) t q = idle
ok-hist {G = G} (step {H = H} {h = h} {e = e} {l = l} v k) t q = ok_step G H h e l (ok-hist v) k t q

init-hist : {G : Group} {H : Hist} → Valid G H → (h : ℕ) → Init G h (state H 0 h)
unfolding prefix now
init-hist (begin i) q = i q
init-hist {G = G} (step {H = H} {h = h} {e = e} {l = l} v k) q = subst (λ P. Init G q (now P q)) (sym (prefix-old H h e l 0 (omega arith))) (init-hist v q)

unfoldable run : {G : Group} {H : Hist} → Valid G H → Run G
run {H = H} v = record {
  st = state H;
  ev = event H;
  Snap = λ t. Sent (prefix H t);
  Att = λ t. Attempted (prefix H t);
  init = init-hist v;
  ok = ok-hist v;
  snap-by = λ {t} {x} {v = u} {m} w. done-prefix (Entry u m) (λ K. Sent K x u m) x (sent-by x u m) H t w;
  att-by = λ {t} {x} {v = u} w. done-prefix (Attempt u) (λ K. Attempted K x u) x (attempted-by x u) H t w;
}

-- ---- formed sessions, by time

abbrev FormedIn : Group → Hist → Sess → Type 0
FormedIn G H F = (F ≡ core_sess G) ⊎ ((x : ℕ) × Done (Form F) H (len H) x)

formed-in : {G : Group} {H : Hist} {F : Sess} → Formed G H F → FormedIn G H F
unfolding len
formed-in formed-core = inl refl
formed-in {F = F} (formed-now {H = H} {h = h} {l = l}) = inr (h, done-now (Form F) H h (form F) l refl)
formed-in {F = F} (formed-before {H = H} {h = h} {e = e} {l = l} w) = ⊎_elim inl (λ (x, k). inr (x, done_more (Form F) H h e l x k)) (formed-in w)

not-tidy : {F : Sess} → tidy ≡ form F → ⊥
not-tidy q = let z : ◌≡◌ {A = ℕ} 0 1 = cc in omega arith

in-formed : (G : Group) (H : Hist) (F : Sess) → FormedIn G H F → Formed G H F
unfolding len
in-formed G H F (inl c) = subst (λ z. Formed G H z) (sym c) formed-core
in-formed G (start s) F (inr (x, (f, d, p))) = absurd (omega arith)
in-formed G (more H h e l) F (inr (x, (f, d, p))) = go (λ k. in-formed G H F (inr (x, k))) (compare f (len H))
  where
    last : event (more H h e l) (len H) x ≡ form F → Dec (x ≡ h) → Formed G (more H h e l) F
    last q (yes y) =
        let q' : event (more H h e l) (len H) h ≡ form F = rw y at q in
        subst (λ z. Formed G (more H h z l) F) (sym (sym (event-now H h e l) ∙ q')) formed-now
    last q (no n) = absurd (not-tidy (sym (event-other H h e l x n) ∙ q))

    go : (Done (Form F) H (len H) x → Formed G H F) → (f < len H) ⊎ ((f ≡ len H) ⊎ (len H < f)) → Formed G (more H h e l) F
    go r (inl b) = formed-before (r (f, b, sym (event-old H h e l f x b) ∙ p))
    go r (inr (inl b)) = last (rw b at p) (ℕ_discrete x h)
    go r (inr (inr b)) = absurd (omega arith)

-- ---- the theorem over histories

formed-unique : {G : Group} {H : Hist} → Lawful G → Valid G H → (F E : Sess) → Formed G H F → Formed G H E → F.number ≡ E.number → F ≡ E
unfolding run
formed-unique {H = H} K v F E a b e = chains.unique K (run v) (len H) F E (formed-in a) (formed-in b) e

formed-chain : {G : Group} {H : Hist} → Lawful G → Valid G H → (F E : Sess) → Formed G H F → Formed G H E → F.number < E.number
    → ((D : Sess) → Formed G H D → F.number < D.number → D.number < E.number → ⊥) → Meet G F.heads E.heads
unfolding run
formed-chain {G = G} {H = H} K v F E a b l n = chains.chain K (run v) (len H) F E (formed-in a) (formed-in b) l (λ D d. n D (in-formed G H D d))

-- The formed sessions of a history are safe.
pub safe-history : {G : Group} {H : Hist} → Lawful G → Valid G H → Safe G (Formed G H)
safe-history {G} {H} K v = safe-by G (Formed G H) (formed-chain K v) formed-core (formed-unique K v)

-- the last attempt was in a view entered
pub tried-in-view : {G : Group} {H : Hist} → Valid G H → (x : ℕ) → (now H x).tried ≤ (now H x).view
unfolding run
tried-in-view {H = H} v x = subst (λ P. (now P x).tried ≤ (now P x).view) (prefix-all H (len H) (le_refl _)) (tried-view (run v) (len H) x)
