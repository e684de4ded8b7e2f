-- Behind every reached world stands a valid history of the model: each step of a head either leaves the history and writes, hears or loses, or
-- makes one change in it. So the world's formed sessions are the history's, and safe.
use mathlib.Core.Path.{◌≡◌, refl, sym, ap, subst, ◌∙◌}
use mathlib.Core.Logic.{◌⊎◌, inl, inr, ◌≢◌, ⊎_elim}
use Prim.Native.Nat.{ℕ, ◌<◌}
use native.Mathlib.Decide.{ℕ_discrete}
use native.Mathlib.Omega.{arith}
use Rattle.chain.specs.Model.{Sess, Group, Local, Event, tidy, enter, adopt, attempt, form}
use Rattle.chain.specs.Reach.{Hist, start, more, now, Sent, sent-before, Attempted, attempted-before, Formed, formed-core, formed-now, formed-before, Valid, begin}
use Rattle.chain.specs.Words.{Rec, Said, sess, Self, Member, Here, Enters, Attempts, Forms}
use Rattle.chain.specs.World.{Phase, undecided, deciding, trying, closed, primary, Session, Vol, gone, live, World, Frame, Quiet, Unformed, Goes, Change, marks, adopts, clears, Decides, Turn, idles, enters, hears, changes, attempts, closes, loses, Does, turn, writes-state, writes-attempt, forms, Begins, Reached, begins, does}
use Rattle.chain.proofs.Laws.Reach.{now-other}
use Rattle.chain.proofs.Laws.Words.{Says, abs, says-self, fresh-init, Holds, Ready, enter-change, mark-change, adopt-change, clear-change, attempt-change, form-change}

-- ---- volatile sessions

live-one : {σ σ' : Session} → live σ ≡ live σ' → σ ≡ σ'
live-one {σ} e = ap out e
  where
    out : Vol → Session
    out gone = σ
    out (live τ) = τ

gone-live : {σ : Session} → gone ≡ live σ → ⊥
gone-live e = subst Fam e tt
  where
    Fam : Vol → Type 0
    Fam gone = Unit {0}
    Fam (live _) = ⊥

-- ---- what a change forms

-- the change forms nothing
abbrev FormsNothing : Event → Type 0
FormsNothing tidy = Unit {0}
FormsNothing (enter v) = Unit {0}
FormsNothing (adopt F) = Unit {0}
FormsNothing (attempt S) = Unit {0}
FormsNothing (form S) = ⊥

module _ (G : Group) where
  -- a history's formed sessions are those before its last change, and what that change formed
  pub formed-back : {H : Hist} {p : ℕ} {e : Event} {l : Local} (F : Sess) → Formed G (more H p e l) F → Formed G H F ⊎ (e ≡ form F)
  formed-back {H} {p} {e} {l} F w = go (more H p e l) F w refl
    where
      prev : Hist → Hist
      prev (start s) = start s
      prev (more K q d m) = K

      last : Hist → Event
      last (start s) = e
      last (more K q d m) = d

      go : (K : Hist) (E : Sess) → Formed G K E → K ≡ more H p e l → Formed G H E ⊎ (e ≡ form E)
      go K E formed-core q = inl formed-core
      go K E formed-now q = inr (sym (ap last q))
      go K E (formed-before x) q = inl (subst (λ z. Formed G z E) (ap prev q) x)

  formed-nothing : {H : Hist} {p : ℕ} {e : Event} {l : Local} (F : Sess) → FormsNothing e → Formed G (more H p e l) F → Formed G H F
  formed-nothing F n w = ⊎_elim (λ k. k) (λ q. absurd (subst FormsNothing q n)) (formed-back F w)

  form-one : {S F : Sess} → form S ≡ form F → F ≡ S
  form-one q = cc

  -- ---- the invariant

  -- what a session's phase says of the history
  abbrev PhaseOk : Hist → ℕ → Rec → ℕ → Phase → Type 1
  PhaseOk H p r t undecided = (t < r.view) × Sent H p r.view (abs G r t)
  PhaseOk H p r t deciding = (t < r.view) × Unit {1}
  PhaseOk H p r t trying = Attempted H p r.view
  PhaseOk H p r t closed = Unit {1}
  PhaseOk H p r t primary = Attempted H p r.view

  record LiveOk (H : Hist) (p : ℕ) (r : Rec) (t : ℕ) (σ : Session) : Type 1 where
    mine : Member G r p
    states : (x : ℕ) → σ.states x → (m : Local) × Says (σ.said x) m × Sent H x r.view m
    attempts : (x : ℕ) → σ.attempts x → Attempted H x r.view
    phase : PhaseOk H p r t σ.phase

  record HeadOk (H : Hist) (p : ℕ) (r : Rec) (v : Vol) : Type 1 where
    tried : ℕ
    at : now H p ≡ abs G r tried
    live-ok : (σ : Session) → v ≡ live σ → LiveOk H p r tried σ

  pub record Inv (W : World) (H : Hist) : Type 1 where
    pub valid : Valid G H
    head : (p : ℕ) → HeadOk H p (W.rec p) (W.vol p)
    state : (v x : ℕ) (s : Said) → W.state v x s → (m : Local) × Says s m × Sent H x v m
    attempt : (v x : ℕ) → W.attempt v x → Attempted H x v
    pub formed : (F : Sess) → W.formed F → Formed G H F
    pub back : (F : Sess) → Formed G H F → W.formed F

  abbrev pub Next : World → Type 1
  Next W = (H : Hist) × Inv W H

  -- ---- it stays when the history grows

  phase-more : (H : Hist) (p : ℕ) (e : Event) (l : Local) (q : ℕ) (r : Rec) (t : ℕ) (f : Phase) → PhaseOk H q r t f → PhaseOk (more H p e l) q r t f
  phase-more H p e l q r t undecided (a, b) = (a, sent-before b)
  phase-more H p e l q r t deciding a = a
  phase-more H p e l q r t trying a = attempted-before a
  phase-more H p e l q r t closed a = a
  phase-more H p e l q r t primary a = attempted-before a

  live_more : {H : Hist} {p q : ℕ} {r : Rec} {t : ℕ} {σ : Session} {e : Event} {l : Local} → LiveOk H q r t σ → LiveOk (more H p e l) q r t σ
  live_more {H} {p} {q} {r} {t} {σ} {e} {l} k = record {
    mine = k.mine;
    states = λ x h. let (m, s, w) = k.states x h in (m, s, sent-before w);
    attempts = λ x h. attempted-before (k.attempts x h);
    phase = phase-more H p e l q r t σ.phase k.phase;
  }

  -- another head does something
  head_more : {H : Hist} {p q : ℕ} {r : Rec} {v : Vol} (e : Event) (l : Local) → q ≢ p → HeadOk H q r v → HeadOk (more H p e l) q r v
  head_more {H} {p} {q} e l n k = record { tried = k.tried; at = now-other H p e l q n ∙ k.at; live-ok = λ σ h. live_more (k.live-ok σ h) }

  head-to : {H : Hist} {p : ℕ} {r r' : Rec} {v v' : Vol} → r' ≡ r → v' ≡ v → HeadOk H p r v → HeadOk H p r' v'
  head-to {H} {p} {r} {r'} {v} {v'} a b k = subst (λ z. HeadOk H p z v') (sym a) (subst (λ z. HeadOk H p r z) (sym b) k)

  head_live : {H : Hist} {p : ℕ} {r : Rec} {v : Vol} (t : ℕ) (σ : Session) → v ≡ live σ → now H p ≡ abs G r t → LiveOk H p r t σ → HeadOk H p r v
  head_live {H} {p} {r} {v} t σ e a k = record { tried = t; at = a; live-ok = λ τ f. subst (λ z. LiveOk H p r t z) (live-one (sym e ∙ f)) k }

  head-gone : {H : Hist} {p : ℕ} {r : Rec} {v : Vol} (t : ℕ) → v ≡ gone → now H p ≡ abs G r t → HeadOk H p r v
  head-gone t e a = record { tried = t; at = a; live-ok = λ τ f. absurd (gone-live (sym e ∙ f)) }

  -- a session that goes on
  live-goes : {H : Hist} {p : ℕ} {r r' : Rec} {t t' : ℕ} {σ σ' : Session} → Goes σ σ' → r'.view ≡ r.view → LiveOk H p r t σ → PhaseOk H p r' t' σ'.phase → LiveOk H p r' t' σ'
  live-goes {H} {p} g e k f = record {
    mine = subst (λ z. G.In p (G.members z)) (sym e) k.mine;
    states = λ x h.
        let (m, s, w) = k.states x (g.states x h) in
        (m, subst (λ z. Says z m) (sym (g.said x)) s, subst (λ z. Sent H x z m) (sym e) w);
    attempts = λ x h. subst (λ z. Attempted H x z) (sym e) (k.attempts x (g.attempts x h));
    phase = f;
  }

  -- p's part anew, the others' as they were
  each-head : {W W' : World} {K : Hist} {p : ℕ} → ((q : ℕ) → q ≢ p → HeadOk K q (W.rec q) (W.vol q)) → Frame p W W' → HeadOk K p (W'.rec p) (W'.vol p)
      → (q : ℕ) → HeadOk K q (W'.rec q) (W'.vol q)
  each-head {W} {W'} {K} {p} k f h q = go (ℕ_discrete q p)
    where
      go : Dec (q ≡ p) → HeadOk K q (W'.rec q) (W'.vol q)
      go (yes n) = subst (λ z. HeadOk K z (W'.rec z) (W'.vol z)) (sym n) h
      go (no n) = head-to (f.rec q n) (f.vol q n) (k q n)

  -- p makes a change, and no line is written
  inv-more : {W W' : World} {H : Hist} {p : ℕ} (e : Event) (l : Local) → Inv W H → Frame p W W' → Quiet W W' → Valid G (more H p e l)
      → HeadOk (more H p e l) p (W'.rec p) (W'.vol p) → ((F : Sess) → W'.formed F → Formed G (more H p e l) F) → ((F : Sess) → Formed G (more H p e l) F → W'.formed F)
      → Inv W' (more H p e l)
  inv-more {W} {W'} {H} {p} e l k f s v h a b = record {
    valid = v;
    head = each-head (λ q n. head_more e l n (k.head q)) f h;
    state = λ u x m w. let (i, j, d) = k.state u x m (s.state u x m w) in (i, j, sent-before d);
    attempt = λ u x w. attempted-before (k.attempt u x (s.attempt u x w));
    formed = a;
    back = b;
  }

  -- p makes a change that forms nothing
  inv-unformed : {W W' : World} {H : Hist} {p : ℕ} (e : Event) (l : Local) → Inv W H → Frame p W W' → Quiet W W' → Unformed W W' → FormsNothing e → Valid G (more H p e l)
      → HeadOk (more H p e l) p (W'.rec p) (W'.vol p) → Inv W' (more H p e l)
  inv-unformed e l k f s u n v h =
      inv-more e l k f s v h (λ F w. formed-before (k.formed F (u.formed F w))) (λ F w. u.kept F (k.back F (formed-nothing F n w)))

  -- p makes no change, and forms nothing
  inv-same : {W W' : World} {H : Hist} {p : ℕ} → Inv W H → Frame p W W' → Unformed W W' → HeadOk H p (W'.rec p) (W'.vol p)
      → ((v x : ℕ) (s : Said) → W'.state v x s → (m : Local) × Says s m × Sent H x v m) → ((v x : ℕ) → W'.attempt v x → Attempted H x v) → Inv W' H
  inv-same k f u h a b = record {
    valid = k.valid;
    head = each-head (λ q n. k.head q) f h;
    state = a;
    attempt = b;
    formed = λ F w. k.formed F (u.formed F w);
    back = λ F w. u.kept F (k.back F w);
  }

  -- .. nor writes
  inv-quiet : {W W' : World} {H : Hist} {p : ℕ} → Inv W H → Frame p W W' → Quiet W W' → Unformed W W' → HeadOk H p (W'.rec p) (W'.vol p) → Inv W' H
  inv-quiet k f q u h = inv-same k f u h (λ v x m w. k.state v x m (q.state v x m w)) (λ v x w. k.attempt v x (q.attempt v x w))

  -- ---- what a session's phase gives

  phase-of : {H : Hist} {p : ℕ} {r : Rec} {t : ℕ} {σ : Session} (f : Phase) → σ.phase ≡ f → LiveOk H p r t σ → PhaseOk H p r t f
  phase-of {H} {p} {r} {t} f e l = subst (λ z. PhaseOk H p r t z) e l.phase

  early : {p : ℕ} {r : Rec} {v : Vol} {H : Hist} {t : ℕ} {σ : Session} → Decides G p r v σ → LiveOk H p r t σ → t < r.view
  early d l = ⊎_elim (λ e. (phase-of undecided e l).0) (λ e. (phase-of deciding e l).0) d.phase

  holds : {W : World} {H : Hist} (p : ℕ) (k : Inv W H) → Holds G H p (W.rec p) (k.head p).tried
  holds p k = record { valid = k.valid; at = (k.head p).at }

  ready : {W : World} {H : Hist} {p : ℕ} {σ : Session} (k : Inv W H) → Decides G p (W.rec p) (W.vol p) σ → (said : ℕ → Said) → ((x : ℕ) → x ≢ p → said x ≡ σ.said x) → Ready G H p (W.rec p) (k.head p).tried said
  ready {W} {H} {p} {σ} k d said e = record {
    holds = holds p k;
    early = early d l;
    heard = λ x i n. let (m, s, w) = l.states x (d.all x i n) in (m, subst (λ z. Says z m) (sym (e x n)) s, w);
  }
    where
      l : LiveOk H p (W.rec p) (k.head p).tried σ
      l = (k.head p).live-ok σ d.session

  -- ---- each step keeps it

  keep-enter : {W W' : World} {H : Hist} {p : ℕ} (v : ℕ) (σ : Session) → Inv W H → Frame p W W' → Quiet W W' → Unformed W W' → Enters G p v (W.rec p) (W'.rec p)
      → W'.vol p ≡ live σ → σ.phase ≡ undecided → ((x : ℕ) → ¬ (σ.states x)) → ((x : ℕ) → ¬ (σ.attempts x)) → Next W'
  keep-enter {W} {W'} {H} {p} v σ k f q u c e ph ns na =
      let (h, s, l) = enter-change G (holds p k) c in
      let s' = subst (λ z. Sent H' p z (abs G (W'.rec p) t)) (sym c.view) s in (
        H',
        inv-unformed (enter v) (abs G (W'.rec p) t) k f q u tt h.valid
            (head_live t σ e h.at record {
              mine = subst (λ z. G.In p (G.members z)) (sym c.view) c.mine;
              states = λ x w. absurd (ns x w);
              attempts = λ x w. absurd (na x w);
              phase = subst (λ z. PhaseOk H' p (W'.rec p) t z) (sym ph) (omega (arith, c.view), s');
            }),
      )
    where
      t : ℕ
      t = (k.head p).tried

      H' : Hist
      H' = more H p (enter v) (abs G (W'.rec p) t)

  -- a change of a, b or c
  keep-within : {W W' : World} {H : Hist} {p : ℕ} {σ σ' : Session} (e : Event) (k : Inv W H) → Frame p W W' → Quiet W W' → Unformed W W' → Decides G p (W.rec p) (W.vol p) σ
      → (W'.rec p).view ≡ (W.rec p).view → FormsNothing e → W'.vol p ≡ live σ' → σ'.phase ≡ deciding → Goes σ σ'
      → Holds G (more H p e (abs G (W'.rec p) (k.head p).tried)) p (W'.rec p) (k.head p).tried → Next W'
  keep-within {W} {W'} {H} {p} {σ} {σ'} e k f q u d v n o ph g h = (
    H',
    inv-unformed e (abs G (W'.rec p) t) k f q u n h.valid
        (head_live t σ' o h.at (live-goes g v (live_more l) (subst (λ z. PhaseOk H' p (W'.rec p) t z) (sym ph) (omega (arith, early d l), tt)))),
  )
    where
      t : ℕ
      t = (k.head p).tried

      l : LiveOk H p (W.rec p) t σ
      l = (k.head p).live-ok σ d.session

      H' : Hist
      H' = more H p e (abs G (W'.rec p) t)

  keep-change : {W W' : World} {H : Hist} {p : ℕ} {σ σ' : Session} → Inv W H → Frame p W W' → Quiet W W' → Unformed W W' → Decides G p (W.rec p) (W.vol p) σ
      → W'.vol p ≡ live σ' → σ'.phase ≡ deciding → Goes σ σ' → Change G p σ.said (W.rec p) (W'.rec p) → Next W'
  keep-change {σ = σ} k f q u d o ph g (marks c) = keep-within tidy k f q u d c.view tt o ph g (mark-change G (ready k d σ.said (λ x n. refl)) c)
  keep-change {σ = σ} k f q u d o ph g (adopts c) = keep-within (adopt (sess c.word)) k f q u d c.view tt o ph g (adopt-change G (ready k d σ.said (λ x n. refl)) c)
  keep-change {σ = σ} k f q u d o ph g (clears c) = keep-within tidy k f q u d c.view tt o ph g (clear-change G (ready k d σ.said (λ x n. refl)) c)

  keep-attempt : {W W' : World} {H : Hist} {p : ℕ} {σ σ' : Session} (said : ℕ → Said) → Inv W H → Frame p W W' → Quiet W W' → Unformed W W' → Decides G p (W.rec p) (W.vol p) σ
      → ((x : ℕ) → x ≢ p → said x ≡ σ.said x) → Self (W.rec p) (said p) → Attempts G p said (W.rec p) (W'.rec p)
      → W'.vol p ≡ live σ' → σ'.phase ≡ trying → Goes σ σ' → Next W'
  keep-attempt {W} {W'} {H} {p} {σ} {σ'} said k f q u d e s c o ph g =
      let (h, a) = attempt-change G (ready k d said e) l.mine s c in
      let a' = subst (λ z. Attempted H' p z) (sym c.view) a in (
        H',
        inv-unformed (attempt S) (abs G (W'.rec p) v) k f q u tt h.valid
            (head_live v σ' o h.at (live-goes g c.view (live_more l) (subst (λ z. PhaseOk H' p (W'.rec p) v z) (sym ph) a'))),
      )
    where
      l : LiveOk H p (W.rec p) (k.head p).tried σ
      l = (k.head p).live-ok σ d.session

      v : ℕ
      v = (W.rec p).view

      S : Sess
      S = Here G (W.rec p) c.number

      H' : Hist
      H' = more H p (attempt S) (abs G (W'.rec p) v)

  keep-form : {W W' : World} {H : Hist} {p : ℕ} {σ : Session} → Inv W H → Frame p W W' → Quiet W W' → W.vol p ≡ live σ → σ.phase ≡ trying
      → ((x : ℕ) → Member G (W.rec p) x → x ≢ p → σ.attempts x) → Forms G (W.rec p) (W'.rec p)
      → ((F : Sess) → W'.formed F → (F ≡ Here G (W.rec p) (W.rec p).num) ⊎ W.formed F)
      → ((F : Sess) → W.formed F → W'.formed F) → W'.formed (Here G (W.rec p) (W.rec p).num)
      → (W'.vol p ≡ gone) ⊎ ((σ' : Session) × (W'.vol p ≡ live σ') × (σ'.phase ≡ primary) × Goes σ σ') → Next W'
  keep-form {W} {W'} {H} {p} {σ} k f q n ph all c up kept new o = (
    H',
    inv-more (form S) (abs G (W'.rec p) t) k f q h.valid (end o)
        (λ F w. ⊎_elim (λ e. subst (λ z. Formed G H' z) (sym e) formed-now) (λ y. formed-before (k.formed F y)) (up F w))
        (λ F w. ⊎_elim (λ y. kept F (k.back F y)) (λ e. subst (λ z. W'.formed z) (sym (form-one e)) new) (formed-back F w)),
  )
    where
      t : ℕ
      t = (k.head p).tried

      l : LiveOk H p (W.rec p) t σ
      l = (k.head p).live-ok σ n

      S : Sess
      S = Here G (W.rec p) (W.rec p).num

      H' : Hist
      H' = more H p (form S) (abs G (W'.rec p) t)

      own : Attempted H p (W.rec p).view
      own = phase-of trying ph l

      attempts-in : (x : ℕ) → Member G (W.rec p) x → Dec (x ≡ p) → Attempted H x (W.rec p).view
      attempts-in x i (yes e) = subst (λ z. Attempted H z (W.rec p).view) (sym e) own
      attempts-in x i (no m) = l.attempts x (all x i m)

      h : Holds G H' p (W'.rec p) t
      h = form-change G (holds p k) l.mine (λ x i. attempts-in x i (ℕ_discrete x p)) c

      own' : Attempted H' p (W'.rec p).view
      own' = attempted-before (subst (λ z. Attempted H p z) (sym c.view) own)

      end : (W'.vol p ≡ gone) ⊎ ((σ' : Session) × (W'.vol p ≡ live σ') × (σ'.phase ≡ primary) × Goes σ σ') → HeadOk H' p (W'.rec p) (W'.vol p)
      end (inl e) = head-gone t e h.at
      end (inr (σ', e, ph', g)) = head_live t σ' e h.at (live-goes g c.view (live_more l) (subst (λ z. PhaseOk H' p (W'.rec p) t z) (sym ph') own'))

  keep-hear : {W W' : World} {H : Hist} {p : ℕ} (σ σ' : Session) → Inv W H → Frame p W W' → Quiet W W' → Unformed W W' → W'.rec p ≡ W.rec p
      → W.vol p ≡ live σ → W'.vol p ≡ live σ' → σ'.phase ≡ σ.phase
      → ((x : ℕ) → σ'.states x → ((σ'.said x ≡ σ.said x) × σ.states x) ⊎ W.state (W.rec p).view x (σ'.said x))
      → ((x : ℕ) → σ'.attempts x → (σ.attempts x) ⊎ W.attempt (W.rec p).view x) → Inv W' H
  keep-hear {W} {W'} {H} {p} σ σ' k f q u r n o ph s a =
      inv-quiet k f q u (head-to r refl (head_live t σ' o (k.head p).at record {
        mine = l.mine;
        states = λ x w. ⊎_elim (λ (e, y). old x e (l.states x y)) (λ y. k.state (W.rec p).view x (σ'.said x) y) (s x w);
        attempts = λ x w. ⊎_elim (l.attempts x) (k.attempt (W.rec p).view x) (a x w);
        phase = subst (λ z. PhaseOk H p (W.rec p) t z) (sym ph) l.phase;
      }))
    where
      t : ℕ
      t = (k.head p).tried

      l : LiveOk H p (W.rec p) t σ
      l = (k.head p).live-ok σ n

      old : (x : ℕ) → σ'.said x ≡ σ.said x → (m : Local) × Says (σ.said x) m × Sent H x (W.rec p).view m → (m : Local) × Says (σ'.said x) m × Sent H x (W.rec p).view m
      old x e (m, d, z) = (m, subst (λ y. Says y m) (sym e) d, z)

  keep-write-state : {W W' : World} {H : Hist} {p : ℕ} (σ : Session) → Inv W H → Frame p W W' → Unformed W W' → W'.rec p ≡ W.rec p → W'.vol p ≡ W.vol p
      → W.vol p ≡ live σ → σ.phase ≡ undecided
      → ((v x : ℕ) (s : Said) → W'.state v x s → (W.state v x s) ⊎ ((v ≡ (W.rec p).view) × (x ≡ p) × Self (W.rec p) s))
      → ((v x : ℕ) → W'.attempt v x → W.attempt v x) → Inv W' H
  keep-write-state {W} {W'} {H} {p} σ k f u r o n ph s a =
      inv-same k f u (head-to r o (k.head p)) (λ v x m w. ⊎_elim (k.state v x m) (λ (e, y, w). line v x m e y w) (s v x m w)) (λ v x w. k.attempt v x (a v x w))
    where
      now-is : Local
      now-is = abs G (W.rec p) (k.head p).tried

      line : (v x : ℕ) (m : Said) → v ≡ (W.rec p).view → x ≡ p → Self (W.rec p) m → (d : Local) × Says m d × Sent H x v d
      line v x m e y w = (
        now-is,
        says-self G (k.head p).tried w,
        subst (λ z. Sent H z v now-is) (sym y) (subst (λ z. Sent H p z now-is) (sym e) (phase-of undecided ph ((k.head p).live-ok σ n)).1),
      )

  keep-write-attempt : {W W' : World} {H : Hist} {p : ℕ} (σ : Session) → Inv W H → Frame p W W' → Unformed W W' → W'.rec p ≡ W.rec p → W'.vol p ≡ W.vol p
      → W.vol p ≡ live σ → (σ.phase ≡ trying) ⊎ (σ.phase ≡ primary)
      → ((v x : ℕ) (s : Said) → W'.state v x s → W.state v x s)
      → ((v x : ℕ) → W'.attempt v x → (W.attempt v x) ⊎ ((v ≡ (W.rec p).view) × (x ≡ p))) → Inv W' H
  keep-write-attempt {W} {W'} {H} {p} σ k f u r o n ph s a =
      inv-same k f u (head-to r o (k.head p)) (λ v x m w. k.state v x m (s v x m w)) (λ v x w. ⊎_elim (k.attempt v x) (λ (e, y). line v x e y) (a v x w))
    where
      l : LiveOk H p (W.rec p) (k.head p).tried σ
      l = (k.head p).live-ok σ n

      line : (v x : ℕ) → v ≡ (W.rec p).view → x ≡ p → Attempted H x v
      line v x e y = subst (λ z. Attempted H z v) (sym y) (subst (λ z. Attempted H p z) (sym e) (⊎_elim (λ c. phase-of trying c l) (λ c. phase-of primary c l) ph))

  keep-turn : {W W' : World} {H : Hist} {p : ℕ} → Inv W H → Frame p W W' → Quiet W W' → Unformed W W' → Turn G p W.state W.attempt (W.rec p) (W.vol p) (W'.rec p) (W'.vol p) → Next W'
  keep-turn {H = H} {p = p} k f q u (idles r o) = (H, inv-quiet k f q u (head-to r o (k.head p)))
  keep-turn k f q u (enters v σ c e ph ns na) = keep-enter v σ k f q u c e ph ns na
  keep-turn {H = H} k f q u (hears σ σ' r n o ph s a) = (H, keep-hear σ σ' k f q u r n o ph s a)
  keep-turn k f q u (changes σ σ' d c o ph g) = keep-change k f q u d o ph g c
  keep-turn k f q u (attempts σ σ' said d e s c o ph g) = keep-attempt said k f q u d e s c o ph g
  keep-turn {W} {W'} {H} {p} k f q u (closes σ σ' r d o ph g) = (
    H,
    inv-quiet k f q u (head-to r refl
        (head_live t σ' o (k.head p).at (live-goes g refl ((k.head p).live-ok σ d.session) (subst (λ z. PhaseOk H p (W.rec p) t z) (sym ph) tt)))),
  )
    where
      t : ℕ
      t = (k.head p).tried
  keep-turn {H = H} {p = p} k f q u (loses r o) = (H, inv-quiet k f q u (head-to r refl (head-gone (k.head p).tried o (k.head p).at)))

  keeps : {W W' : World} {H : Hist} {p : ℕ} → Inv W H → Does G p W W' → Next W'
  keeps k (turn f q u w) = keep-turn k f q u w
  keeps {H = H} k (writes-state σ f u r o n ph s a) = (H, keep-write-state σ k f u r o n ph s a)
  keeps {H = H} k (writes-attempt σ f u r o n ph s a) = (H, keep-write-attempt σ k f u r o n ph s a)
  keeps k (forms σ f q n ph all c up kept new o) = keep-form k f q n ph all c up kept new o

  -- ---- from the beginning

  begun : {W : World} → Begins G W → Inv W (start (λ x. abs G (W.rec x) 0))
  unfolding now
  begun {W} b = record {
    valid = begin (λ h. fresh-init G (b.fresh h));
    head = λ p. head-gone 0 (b.vol p) refl;
    state = λ v x s w. absurd (b.state v x s w);
    attempt = λ v x w. absurd (b.attempt v x w);
    formed = λ F w. subst (λ z. Formed G (start (λ x. abs G (W.rec x) 0)) z) (sym (b.formed F w)) formed-core;
    back = λ F w. go (start (λ x. abs G (W.rec x) 0)) F w refl;
  }
    where
      Fam : Hist → Type 0
      Fam (start s) = Unit {0}
      Fam (more H h e l) = ⊥

      go : (K : Hist) (F : Sess) → Formed G K F → K ≡ start (λ x. abs G (W.rec x) 0) → W.formed F
      go K F formed-core e = b.core
      go K F formed-now e = absurd (subst Fam (sym e) tt)
      go K F (formed-before w) e = absurd (subst Fam (sym e) tt)

  -- a history stands behind every reached world
  pub behind : {W : World} → Reached G W → Next W
  behind {W} (begins b) = (start (λ x. abs G (W.rec x) 0), begun b)
  behind (does p r d) = keeps (behind r).1 d
