-- Histories that can be met (document 01, "Examples of both sides" and "Slips that look right"): statements that there is one, of the very definition of a history;
-- and what one event more leads to that no history may have.
use Rattle.std.specs.Prelude.{Bool, true, false, cond, ◌≡◌, [], ◌∷◌, ℕ, eqb, replicate}
use Rattle.group.specs.Answers.{Said, refused, attempted, no-quorum}
use Rattle.record.specs.Layout.{primary, place_at}
use Rattle.record.specs.Whole.{whole}
use Rattle.lines.specs.Writing.{attempt_line}
use Rattle.head.specs.Calls.{decide_spec}
use Rattle.history.specs.Setting.{Setting}
use Rattle.history.specs.Statement.{Head, unstarted, running, World, hear-attempt, decide, Event, start, call, step, May, History, in_order}

-- ---- what is seen of a head

-- what its decide would answer, with stores enough for all its changes
abbrev pub decides : Head → Said
decides unstarted = refused 2
decides (running r s) = (decide_spec s r 128).answer

-- its last primary, and the session in its first place
abbrev pub holds : Head → ℕ
holds unstarted = 0
holds (running r s) = primary r

abbrev pub lists : Head → ℕ
lists unstarted = 0
lists (running r s) = place_at r 0

-- its session's stage: 2 closed, 3 attempted
abbrev pub stage_of : Head → ℕ
stage_of unstarted = 0
stage_of (running r s) = s.stage

-- whether its record is whole
abbrev pub is_whole : Head → Bool
is_whole unstarted = true
is_whole (running r s) = whole r

-- ---- settings, Q being 1: what the views 1, 2 and 3 stand for

-- W0 is 001f; the views are 0007, 0003 and 001c
unfoldable pub eleven : ℕ → ℕ
eleven view = cond (eqb view 1) 0x7 (cond (eqb view 2) 0x3 0x1c)

-- W0 is 0007; the views are 0007, 0006 and 0004
unfoldable pub shrinking : ℕ → ℕ
shrinking view = cond (eqb view 1) 0x7 (cond (eqb view 2) 0x6 0x4)

-- W0 is 0007; the views are 0003 and 0006
unfoldable pub crossing : ℕ → ℕ
crossing view = cond (eqb view 1) 0x3 0x6

-- S has this W0, Q 1 and these views
pub record Is (S : Setting) (core : ℕ) (members : ℕ → ℕ) : Type 0 where
  pub core_is : S.core ≡ core
  pub least-is : S.least ≡ 1
  pub members-is : (view : ℕ) → S.members view ≡ members view

-- from world U to world W by events that a history may make
pub data Leads (S : Setting) (U : World) : World → Type 0 where
  here : Leads S U U
  on : {W : World} (e : Event) → May S W e → Leads S U W → Leads S U (step S e W)

-- ---- case 11

-- heads 0, 1 and 2 decide, one after the other, with stores enough
abbrev pub all_decide : Setting → World → World
all_decide S W = step S (call 2 false 128 decide) (step S (call 1 false 128 decide) (step S (call 0 false 128 decide) W))

-- "11. Q 1, all heads fresh. View 1 is 0007; heads 0 and 1 form (0007, 1), head 2 has attempted only. In view 2, 0003 attempts (0003, 2). In view 3, 001c: no quorum."
-- A session word is number and heads: 10007 hex is (0007, 1). In `asked` the views 2 and 3 are entered and their states heard, and in `world` heads 0, 1 and 2 have
-- decided: heads 0 and 1 have (0003, 2) in a place, and head 2's session is closed.
pub record CaseEleven : Type 0 where
  pub setting : Setting
  pub is : Is setting 0x1f eleven
  pub asked : World
  pub first : History setting asked
  pub formed : asked.formed ≡ 0x10007 ∷ 0x10007 ∷ 0x1f ∷ []
  pub attempted-only : (holds (asked.head 2) ≡ 0x1f) × (lists (asked.head 2) ≡ 0x10007)
  pub answers : (decides (asked.head 0) ≡ attempted) × (decides (asked.head 1) ≡ attempted) × (decides (asked.head 2) ≡ no-quorum)
  pub world : World
  pub decided : world ≡ all_decide setting asked
  pub history : History setting world
  pub view-two : (lists (world.head 0) ≡ 0x20003) × (lists (world.head 1) ≡ 0x20003) × (stage_of (world.head 0) ≡ 3) × (stage_of (world.head 1) ≡ 3)
  pub view-three : (stage_of (world.head 2) ≡ 2) × (holds (world.head 2) ≡ 0x1f) × (lists (world.head 2) ≡ 0x10007)

-- three sessions formed in a row, the last by one head. No form but head 2's has stored (0007, 1) in word 3, and that form was cut there: it counts while the record
-- is not whole, and the head goes on once it has recovered.
pub record ThreeInARow : Type 0 where
  pub setting : Setting
  pub is : Is setting 0x7 shrinking
  pub after-cut : World
  pub first : History setting after-cut
  pub counts : after-cut.formed ≡ 0x10007 ∷ 0x7 ∷ []
  pub not-whole : is_whole (after-cut.head 2) ≡ false
  pub world : World
  pub leads : Leads setting after-cut world
  pub history : History setting world
  pub formed : world.formed ≡ 0x30004 ∷ 0x20006 ∷ 0x20006 ∷ 0x10007 ∷ 0x7 ∷ []
  pub listed : in_order world.formed ≡ 0x7 ∷ 0x10007 ∷ 0x20006 ∷ 0x30004 ∷ []

-- "Claiming the chain for attempts. Only formed sessions have it.": two heads have attempted different sessions of number 1
pub record TwoAttempts : Type 0 where
  pub setting : Setting
  pub is : Is setting 0x7 crossing
  pub world : World
  pub history : History setting world
  pub one : lists (world.head 0) ≡ 0x10003
  pub other : lists (world.head 1) ≡ 0x10006

-- ---- two conditions that are needed

-- a history, then the event e whatever it is, then events that a history may make: two sessions of number 1 are formed
pub record Breaks (e : Event) : Type 0 where
  pub setting : Setting
  pub is : Is setting 0x7 crossing
  pub before : World
  pub history : History setting before
  pub after : World
  pub leads : Leads setting (step setting e before) after
  pub formed : after.formed ≡ 0x10006 ∷ 0x10003 ∷ 0x7 ∷ []

-- a head number started again
abbrev pub Restarted : Type 0
Restarted = Breaks (start 1 (replicate 52 0) 0)

-- an attempt line that its sender never wrote
abbrev pub Forged : Type 0
Forged = Breaks (call 0 false 0 (hear-attempt (attempt_line 1 1)))
