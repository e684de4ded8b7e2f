-- Document 01's histories in small steps over worlds: records, volatile sessions, written lines, formed sessions. A call is one or more of
-- these steps; a cut call is some of them and then `loses`.
use Rattle.std.specs.Prelude.{◌≡◌, ◌⊎◌, ◌≢◌, ℕ}
use Rattle.chain.specs.Model.{Sess, Group, core_sess}
use Rattle.chain.specs.Words.{Rec, Said, Member, Here, Fresh, Self, Enters, Marks, Adopts, Clears, Attempts, Forms}

-- How far a session is: undecided; within decide, some of its changes made; attempted; closed by decide; formed.
pub data Phase : Type 0 where
  undecided deciding trying closed primary : Phase

-- A volatile session. Its view is its record's. What it heard from others: the states, `said x` from x, and the attempts.
pub record Session : Type 1 where
  pub phase : Phase
  pub said : ℕ → Said
  pub states : ℕ → Type 0
  pub attempts : ℕ → Type 0

-- "Each call takes the head's session and hands it back; it is volatile": it may be gone.
pub data Vol : Type 1 where
  gone : Vol
  live : Session → Vol

pub record World : Type 1 where
  -- each head's record: "The recovered record is the one after the done changes"
  pub rec : ℕ → Rec
  pub vol : ℕ → Vol
  -- the lines written: of a state line its view, sender and values, of an attempt line its view and sender
  pub state : ℕ → ℕ → Said → Type 0
  pub attempt : ℕ → ℕ → Type 0
  -- the sessions formed, the core group's among them: "A session is formed when a form call has stored word 3"
  pub formed : Sess → Type 0

-- only head p's record and session may differ
pub record Frame (p : ℕ) (W W' : World) : Type 1 where
  pub rec : (q : ℕ) → q ≢ p → W'.rec q ≡ W.rec q
  pub vol : (q : ℕ) → q ≢ p → W'.vol q ≡ W.vol q

-- no line is written
pub record Quiet (W W' : World) : Type 1 where
  pub state : (v x : ℕ) (s : Said) → W'.state v x s → W.state v x s
  pub attempt : (v x : ℕ) → W'.attempt v x → W.attempt v x

-- nothing is formed
pub record Unformed (W W' : World) : Type 1 where
  pub formed : (F : Sess) → W'.formed F → W.formed F
  pub kept : (F : Sess) → W.formed F → W'.formed F

-- a session goes on with what it heard
pub record Goes (σ σ' : Session) : Type 1 where
  pub said : (x : ℕ) → σ'.said x ≡ σ.said x
  pub states : (x : ℕ) → σ'.states x → σ.states x
  pub attempts : (x : ℕ) → σ'.attempts x → σ.attempts x

module _ (G : Group) where
  -- one change of decide's a, b or c
  pub data Change (p : ℕ) (said : ℕ → Said) (r r' : Rec) : Type 0 where
    marks : Marks G p said r r' → Change p said r r'
    adopts : Adopts G p said r r' → Change p said r r'
    clears : Clears G p said r r' → Change p said r r'

  -- "Decide, once all states of M are in": p, with record r and session v, is not through with it
  pub record Decides (p : ℕ) (r : Rec) (v : Vol) (σ : Session) : Type 1 where
    pub session : v ≡ live σ
    pub phase : (σ.phase ≡ undecided) ⊎ (σ.phase ≡ deciding)
    pub all : (x : ℕ) → Member G r x → x ≢ p → σ.states x

  -- A step of head p that writes no line and forms nothing, from record r and session v to r' and v'.
  -- `lines` and `tries` are the state and attempt lines written before.
  pub data Turn (p : ℕ) (lines : ℕ → ℕ → Said → Type 0) (tries : ℕ → ℕ → Type 0) (r : Rec) (v : Vol) (r' : Rec) (v' : Vol) : Type 1 where
    -- a refused call: "Record, session and output buffer keep their contents"
    idles : r' ≡ r → v' ≡ v → Turn p lines tries r v r' v'
    -- enter view u: "ends any session, opens one"
    enters : (u : ℕ) (σ : Session) → Enters G p u r r'
        → v' ≡ live σ → σ.phase ≡ undecided → ((x : ℕ) → ¬ (σ.states x)) → ((x : ℕ) → ¬ (σ.attempts x)) → Turn p lines tries r v r' v'
    -- hear: "Each state or attempt line heard in it was written before by the head it names as sender"; "line of another view" is refused
    hears : (σ σ' : Session) → r' ≡ r → v ≡ live σ → v' ≡ live σ' → σ'.phase ≡ σ.phase
        → ((x : ℕ) → σ'.states x → ((σ'.said x ≡ σ.said x) × σ.states x) ⊎ lines r.view x (σ'.said x))
        → ((x : ℕ) → σ'.attempts x → (σ.attempts x) ⊎ tries r.view x) → Turn p lines tries r v r' v'
    -- decide: a change of a, b or c
    changes : (σ σ' : Session) → Decides p r v σ → Change p σ.said r r' → v' ≡ live σ' → σ'.phase ≡ deciding → Goes σ σ' → Turn p lines tries r v r' v'
    -- decide: the attempt of d; `said` has p's own values besides the others'
    attempts : (σ σ' : Session) (said : ℕ → Said) → Decides p r v σ
        → ((x : ℕ) → x ≢ p → said x ≡ σ.said x) → Self r (said p) → Attempts G p said r r'
        → v' ≡ live σ' → σ'.phase ≡ trying → Goes σ σ' → Turn p lines tries r v r' v'
    -- decide ends without an attempt: the last three answers "close the session, and keep a to c"
    closes : (σ σ' : Session) → r' ≡ r → Decides p r v σ → v' ≡ live σ' → σ'.phase ≡ closed → Goes σ σ' → Turn p lines tries r v r' v'
    -- the session is lost: a call that ends "with the answer "cut" and no session", a stop, a recovery
    loses : r' ≡ r → v' ≡ gone → Turn p lines tries r v r' v'

  -- any number of them
  pub data Turns (p : ℕ) (lines : ℕ → ℕ → Said → Type 0) (tries : ℕ → ℕ → Type 0) (r : Rec) (v : Vol) : Rec → Vol → Type 1 where
    rests : Turns p lines tries r v r v
    then : {a b : Rec} {x y : Vol} → Turns p lines tries r v a x → Turn p lines tries a x b y → Turns p lines tries r v b y

  -- a step of head p in the world
  pub data Does (p : ℕ) (W W' : World) : Type 1 where
    turn : Frame p W W' → Quiet W W' → Unformed W W' → Turn p W.state W.attempt (W.rec p) (W.vol p) (W'.rec p) (W'.vol p) → Does p W W'
    -- "Write state line, of the record's values, from entry until decided"
    writes-state : (σ : Session) → Frame p W W' → Unformed W W' → W'.rec p ≡ W.rec p → W'.vol p ≡ W.vol p
        → W.vol p ≡ live σ → σ.phase ≡ undecided
        → ((v x : ℕ) (s : Said) → W'.state v x s → (W.state v x s) ⊎ ((v ≡ (W.rec p).view) × (x ≡ p) × Self (W.rec p) s))
        → ((v x : ℕ) → W'.attempt v x → W.attempt v x) → Does p W W'
    -- "write attempt line, once attempted"
    writes-attempt : (σ : Session) → Frame p W W' → Unformed W W' → W'.rec p ≡ W.rec p → W'.vol p ≡ W.vol p
        → W.vol p ≡ live σ → (σ.phase ≡ trying) ⊎ (σ.phase ≡ primary)
        → ((v x : ℕ) (s : Said) → W'.state v x s → W.state v x s)
        → ((v x : ℕ) → W'.attempt v x → (W.attempt v x) ⊎ ((v ≡ (W.rec p).view) × (x ≡ p))) → Does p W W'
    -- "Form, once all attempts of M are in", done at word 3: the session is formed, and stays or is lost by a cut after it
    forms : (σ : Session) → Frame p W W' → Quiet W W' → W.vol p ≡ live σ → σ.phase ≡ trying
        → ((x : ℕ) → Member G (W.rec p) x → x ≢ p → σ.attempts x) → Forms G (W.rec p) (W'.rec p)
        → ((F : Sess) → W'.formed F → (F ≡ Here G (W.rec p) (W.rec p).num) ⊎ W.formed F)
        → ((F : Sess) → W.formed F → W'.formed F) → W'.formed (Here G (W.rec p) (W.rec p).num)
        → (W'.vol p ≡ gone) ⊎ ((σ' : Session) × (W'.vol p ≡ live σ') × (σ'.phase ≡ primary) × Goes σ σ') → Does p W W'

  -- "In a history, which for a head begins after its start": all records are fresh, no session, no line, and only the core group's session formed
  pub record Begins (W : World) : Type 1 where
    pub fresh : (x : ℕ) → Fresh G x (W.rec x)
    pub vol : (x : ℕ) → W.vol x ≡ gone
    pub state : (v x : ℕ) (s : Said) → ¬ (W.state v x s)
    pub attempt : (v x : ℕ) → ¬ (W.attempt v x)
    pub formed : (F : Sess) → W.formed F → F ≡ core_sess G
    pub core : W.formed (core_sess G)

  -- the worlds of histories
  pub data Reached : World → Type 1 where
    begins : {W : World} → Begins W → Reached W
    does : {W W' : World} (p : ℕ) → Reached W → Does p W W' → Reached W'
