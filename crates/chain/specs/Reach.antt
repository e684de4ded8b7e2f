-- Histories of the protocol: one head makes one change at a time. What was sent, attempted and formed in them, and which of them the rules give.
use Rattle.std.specs.Prelude.{◌≡◌, cond, ℕ, eqb}
use Rattle.chain.specs.Model.{Sess, Group, core_sess, Local, Event, enter, attempt, form, Init, Ok}

-- the heads' states at the start; then head h made the change e and is in state l
pub data Hist : Type 1 where
  start : (ℕ → Local) → Hist
  more : Hist → ℕ → Event → Local → Hist

-- head q's present state
unfoldable pub now : Hist → ℕ → Local
now (start s) q = s q
now (more H h e l) q = cond (eqb q h) l (now H q)

-- head x entered view v and was then in state m, which its state lines of view v carry
pub data Sent : Hist → ℕ → ℕ → Local → Type 1 where
  sent : {H : Hist} {h v : ℕ} {l : Local} → Sent (more H h (enter v) l) h v l
  sent-before : {H : Hist} {h x v : ℕ} {e : Event} {l m : Local} → Sent H x v m → Sent (more H h e l) x v m

-- head x attempted in view v, which its attempt lines of view v say
pub data Attempted : Hist → ℕ → ℕ → Type 1 where
  attempted : {H : Hist} {h v : ℕ} {S : Sess} {l : Local} → (now H h).view ≡ v → Attempted (more H h (attempt S) l) h v
  attempted-before : {H : Hist} {h x v : ℕ} {e : Event} {l : Local} → Attempted H x v → Attempted (more H h e l) x v

-- the core group's session, and every session that some head formed
pub data Formed (G : Group) : Hist → Sess → Type 1 where
  formed-core : {H : Hist} → Formed G H (core_sess G)
  formed-now : {H : Hist} {h : ℕ} {S : Sess} {l : Local} → Formed G (more H h (form S) l) S
  formed-before : {H : Hist} {h : ℕ} {e : Event} {l : Local} {S : Sess} → Formed G H S → Formed G (more H h e l) S

-- the core group's session, and every session that some head attempted
pub data Tried (G : Group) : Hist → Sess → Type 1 where
  tried-core : {H : Hist} → Tried G H (core_sess G)
  tried-now : {H : Hist} {h : ℕ} {S : Sess} {l : Local} → Tried G (more H h (attempt S) l) S
  tried-before : {H : Hist} {h : ℕ} {e : Event} {l : Local} {S : Sess} → Tried G H S → Tried G (more H h e l) S

-- The histories that the rules give: all heads fresh, then each change allowed by what was sent and attempted before it.
pub data Valid (G : Group) : Hist → Type 1 where
  begin : {s : ℕ → Local} → ((h : ℕ) → Init G h (s h)) → Valid G (start s)
  step : {H : Hist} {h : ℕ} {e : Event} {l : Local} → Valid G H → Ok G (Sent H) (Attempted H) h (now H h) l e → Valid G (more H h e l)
