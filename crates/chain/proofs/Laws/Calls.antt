-- Calls as steps: many turns of one head are as good as one, decide is its changes and then an attempt, a closing or a cut, and a step may name
-- its records by equations.
use mathlib.Core.Path.{◌≡◌, refl, sym, ap, subst, ◌∙◌}
use mathlib.Core.Logic.{◌⊎◌, inr, ◌≢◌}
use mathlib.Core.Bool.{Bool, cond}
use Prim.Native.Nat.{ℕ}
use lib.Dec.{eqb}
use borrow.Author.Tests.{eq-eqb, ne_eqb}
use Rattle.chain.specs.Model.{Sess, Group}
use Rattle.chain.specs.Words.{Rec, Said, Self, Member, Here, Marks, Adopts, Clears, Attempts, Forms}
use Rattle.chain.specs.World.{Phase, deciding, trying, closed, primary, Session, Vol, gone, live, World, Frame, Quiet, Unformed, Goes, marks, adopts, clears, Decides, Turn, idles, changes, attempts, closes, loses, Turns, rests, then, Does, turn, forms, Reached, does}

-- ---- a world with another record and session for one head

-- f with y for p
abbrev at {ℓ} : {A : Type ℓ} → ℕ → A → (ℕ → A) → ℕ → A
at p y f q = cond (eqb q p) y (f q)

at_here {ℓ} : {A : Type ℓ} (p : ℕ) (y : A) (f : ℕ → A) → at p y f p ≡ y
at_here p y f = ap (λ (b : Bool). cond b y (f p)) (eq-eqb p p refl)

at_there {ℓ} : {A : Type ℓ} (p : ℕ) (y : A) (f : ℕ → A) (q : ℕ) → q ≢ p → at p y f q ≡ f q
at_there p y f q n = ap (λ (b : Bool). cond b y (f q)) (ne_eqb q p n)

abbrev put : ℕ → Rec → Vol → World → World
put p r v W = record { rec = at p r W.rec; vol = at p v W.vol; state = W.state; attempt = W.attempt; formed = W.formed }

put-frame : (p : ℕ) (r : Rec) (v : Vol) (W : World) → Frame p W (put p r v W)
put-frame p r v W = record { rec = at_there p r W.rec; vol = at_there p v W.vol }

frame-after : {p : ℕ} {A B C : World} → Frame p A B → Frame p A C → Frame p B C
frame-after f g = record { rec = λ q n. g.rec q n ∙ sym (f.rec q n); vol = λ q n. g.vol q n ∙ sym (f.vol q n) }

-- σ in another phase
abbrev pub phased : Phase → Session → Session
phased f σ = record { phase = f; said = σ.said; states = σ.states; attempts = σ.attempts }

-- σ within decide
abbrev within : Session → Session
within σ = phased deciding σ

goes : (σ : Session) (f : Phase) → Goes σ (phased f σ)
goes σ f = record { said = λ x. refl; states = λ x w. w; attempts = λ x w. w }

module _ (G : Group) where
  -- ---- a call that makes many turns

  pub turn-to : {p : ℕ} {lines : ℕ → ℕ → Said → Type 0} {tries : ℕ → ℕ → Type 0} {r r' s s' : Rec} {v v' w w' : Vol}
      → s ≡ r → w ≡ v → s' ≡ r' → w' ≡ v' → Turn G p lines tries r v r' v' → Turn G p lines tries s w s' w'
  turn-to {p} {lines} {tries} {r} {r'} {s} {s'} {v} {v'} {w} {w'} a b c d k =
      subst (λ z. Turn G p lines tries z w s' w') (sym a) (subst (λ z. Turn G p lines tries r z s' w') (sym b)
      (subst (λ z. Turn G p lines tries r v z w') (sym c) (subst (λ z. Turn G p lines tries r v r' z) (sym d) k)))

  put-reached : {p : ℕ} {W : World} {r : Rec} {v : Vol} → Reached G W → Turns G p W.state W.attempt (W.rec p) (W.vol p) r v → Reached G (put p r v W)
  put-reached {p} {W} k rests =
      does p k (turn (put-frame p (W.rec p) (W.vol p) W) (record { state = λ v x s w. w; attempt = λ v x w. w }) (record { formed = λ F w. w; kept = λ F w. w })
      (idles (at_here p (W.rec p) W.rec) (at_here p (W.vol p) W.vol)))
  put-reached {p} {W} k (then {a = a} {b = b} {x = x} {y = y} ts t) =
      does p (put-reached k ts) (turn (frame-after (put-frame p a x W) (put-frame p b y W))
      (record { state = λ v x s w. w; attempt = λ v x w. w }) (record { formed = λ F w. w; kept = λ F w. w })
      (turn-to (at_here p a W.rec) (at_here p x W.vol) (at_here p b W.rec) (at_here p y W.vol) t))

  -- A call of p that writes no line and forms nothing, in any number of turns.
  pub calls : {p : ℕ} {W W' : World} → Reached G W → Frame p W W' → Quiet W W' → Unformed W W'
      → Turns G p W.state W.attempt (W.rec p) (W.vol p) (W'.rec p) (W'.vol p) → Reached G W'
  calls {p} {W} {W'} k f q u ts =
      does p (put-reached k ts) (turn (frame-after (put-frame p (W'.rec p) (W'.vol p) W) f)
      (record { state = q.state; attempt = q.attempt }) (record { formed = u.formed; kept = u.kept })
      (idles (sym (at_here p (W'.rec p) W.rec)) (sym (at_here p (W'.vol p) W.vol))))

  -- ---- decide

  -- p's session is σ, or σ in the phase deciding
  still-decides : {p : ℕ} {r r' : Rec} {v : Vol} {σ : Session} → Decides G p r v σ → r'.view ≡ r.view → Decides G p r' (live (within σ)) (within σ)
  still-decides d e = record { session = refl; phase = inr refl; all = λ x i n. d.all x (subst (λ z. G.In x (G.members z)) e i) n }

  -- a, b and c, as far as they came: each may be left out, and of the marks and clearings any may be
  pub data Part (p : ℕ) (said : ℕ → Said) (r r₁ r₂ r₃ : Rec) : Type 0 where
    adopting : Marks G p said r r₁ → Adopts G p said r₁ r₂ → Clears G p said r₂ r₃ → Part p said r r₁ r₂ r₃
    staying : Marks G p said r r₁ → r₂ ≡ r₁ → Clears G p said r₂ r₃ → Part p said r r₁ r₂ r₃

  module _ {p : ℕ} {lines : ℕ → ℕ → Said → Type 0} {tries : ℕ → ℕ → Type 0} {r r₁ r₂ r₃ : Rec} {v : Vol} {σ : Session} (d : Decides G p r v σ) (k : Part p σ.said r r₁ r₂ r₃) where
    through : Turns G p lines tries r v r₃ (live (within σ)) × Decides G p r₃ (live (within σ)) (within σ)
    through = go k
      where
        go : Part p σ.said r r₁ r₂ r₃ → Turns G p lines tries r v r₃ (live (within σ)) × Decides G p r₃ (live (within σ)) (within σ)
        go (adopting a b c) =
            let d₁ : Decides G p r₁ (live (within σ)) (within σ) = still-decides d a.view in
            let d₂ : Decides G p r₂ (live (within σ)) (within σ) = still-decides d₁ b.view in (
              then (then (then rests (changes σ (within σ) d (marks a) refl refl (goes σ deciding))) (changes (within σ) (within σ) d₁ (adopts b) refl refl (goes (within σ) deciding)))
                  (changes (within σ) (within σ) d₂ (clears c) refl refl (goes (within σ) deciding)),
              still-decides d₂ c.view,
            )
        go (staying a e c) =
            let d₂ : Decides G p r₂ (live (within σ)) (within σ) = still-decides d (ap (λ (z : Rec). z.view) e ∙ a.view) in (
              then (then (then rests (changes σ (within σ) d (marks a) refl refl (goes σ deciding))) (idles e refl)) (changes (within σ) (within σ) d₂ (clears c) refl refl (goes (within σ) deciding)),
              still-decides d₂ c.view,
            )

    pub decide-closes : Turns G p lines tries r v r₃ (live (phased closed σ))
    decide-closes = let (t, d') = through in then t (closes (within σ) (phased closed σ) refl d' refl refl (goes (within σ) closed))

    -- cut before the attempt
    pub decide-cut : Turns G p lines tries r v r₃ gone
    decide-cut = then through.0 (loses refl refl)

    module _ {r₄ : Rec} (said : ℕ → Said) (e : (x : ℕ) → x ≢ p → said x ≡ σ.said x) (s : Self r₃ (said p)) (c : Attempts G p said r₃ r₄) where
      pub decide-attempts : Turns G p lines tries r v r₄ (live (phased trying σ))
      decide-attempts = let (t, d') = through in then t (attempts (within σ) (phased trying σ) said d' e s c refl refl (goes (within σ) trying))

      -- cut after the attempt's first store
      pub decide-cut-late : Turns G p lines tries r v r₄ gone
      decide-cut-late = then decide-attempts (loses refl refl)

  -- ---- form, with the two records named

  pub forms-to : {p : ℕ} {W W' : World} (r r' : Rec) (σ : Session) → W.rec p ≡ r → W'.rec p ≡ r' → Frame p W W' → Quiet W W' → W.vol p ≡ live σ → σ.phase ≡ trying
      → ((x : ℕ) → Member G r x → x ≢ p → σ.attempts x) → Forms G r r'
      → ((F : Sess) → W'.formed F → (F ≡ Here G r r.num) ⊎ W.formed F)
      → ((F : Sess) → W.formed F → W'.formed F) → W'.formed (Here G r r.num)
      → (W'.vol p ≡ gone) ⊎ ((σ' : Session) × (W'.vol p ≡ live σ') × (σ'.phase ≡ primary) × Goes σ σ') → Does G p W W'
  forms-to {p} {W} {W'} r r' σ e e' f q v ph all c up kept new o =
      forms σ f q v ph (λ x m. all x (subst (λ z. Member G z x) e m))
      (subst (λ z. Forms G z (W'.rec p)) (sym e) (subst (λ z. Forms G r z) (sym e') c))
      (λ F w. subst (λ (z : Rec). (F ≡ Here G z z.num) ⊎ W.formed F) (sym e) (up F w))
      kept
      (subst (λ (z : Rec). W'.formed (Here G z z.num)) (sym e) new)
      o
