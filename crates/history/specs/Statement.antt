-- DEMAND 3: what a history is, and what holds of every one. A world has the heads' words and sessions, the lines written so far and the sessions formed so far; an
-- event is a start or a call. What an event does is the definition of that call itself (crates record, recovery and head): no call is described here again.
use Rattle.std.specs.Prelude.{Bool, true, false, cond, ◌≡◌, ℕ, ◌≤◌, ◌<◌, eqb, ltb, length, take}
use mathlib.Core.List.{List, [], ◌∷◌, ◌++◌, Memᴰ}
use Rattle.group.specs.Answers.{Said, started, recovered, entered, heard, attempted, no-quorum, numbers-run-out, no_place, formed, cut, written, refused}
use Rattle.group.specs.Heads.{Share}
use Rattle.group.specs.Words.{num}
use Rattle.store.specs.Desk.{apply}
use Rattle.store.specs.Changes.{Change, all_non_empty, begun}
use Rattle.record.specs.Layout.{primary}
use Rattle.record.specs.Start.{start_spec, taken_least}
use Rattle.record.specs.Whole.{whole}
use Rattle.recovery.specs.Recover.{mended, mendable, recover_spec}
use Rattle.lines.specs.Reading.{read_whole}
use Rattle.lines.specs.Read.{Line}
use Rattle.lines.specs.Read as line
use Rattle.head.specs.declared.session.Session.{Session}
use Rattle.head.specs.Session.{no_session}
use Rattle.head.specs.Fits.{usable}
use Rattle.head.specs.Calls.{Wrote, refuses, enter_spec, hear_state_spec, hear_attempt_spec, decide_spec, form_spec, write_state_spec, write_attempt_spec, enter_changes, decides_changes, forms_changes}
use Rattle.history.specs.Setting.{Setting}

-- ---- worlds

-- a line that was written, and the head that wrote it
pub record Sent : Type 0 where
  pub by : ℕ
  pub bytes : List ℕ

-- a head: not started, or its words and the session last handed back
pub data Head : Type 0 where
  unstarted : Head
  running : List ℕ → Session → Head

pub record World : Type 0 where
  pub head : ℕ → Head
  pub sent : List Sent
  -- the formed sessions: the core group's, and each that a form call stored in word 3
  pub formed : List ℕ

-- ---- events

-- a call on a head that runs; the output of a writing call is what was lent to it
pub data Call : Type 0 where
  enter : (view : ℕ) → Call
  hear-state hear-attempt : (bytes : List ℕ) → Call
  decide form recover : Call
  write-state write-attempt : (out : List ℕ) → Call

pub data Event : Type 0 where
  -- a head is started on some words, with Q as given
  start : (head : ℕ) (words : List ℕ) (given : ℕ) → Event
  -- a head makes a call with so many stores at most; `lost` says that its session was lost before, so that the call is given none
  call : (head : ℕ) (lost : Bool) (stores : ℕ) → Call → Event

-- ---- what a call does, by its own definition

module _ (S : Setting) where
  -- the record that it leaves
  abbrev pub leaves : Call → ℕ → List ℕ → Session → List ℕ
  leaves (enter view) k r s = (enter_spec s r view (S.members view) k).words
  leaves (hear-state bytes) k r s = (hear_state_spec s r bytes).words
  leaves (hear-attempt bytes) k r s = (hear_attempt_spec s r bytes).words
  leaves decide k r s = (decide_spec s r k).words
  leaves form k r s = (form_spec s r k).words
  leaves recover k r s = (recover_spec r k).rec
  leaves (write-state out) k r s = r
  leaves (write-attempt out) k r s = r

  -- the session that it hands back; "start and recover leave none"
  abbrev pub back : Call → ℕ → List ℕ → Session → Session
  back (enter view) k r s = (enter_spec s r view (S.members view) k).session
  back (hear-state bytes) k r s = (hear_state_spec s r bytes).session
  back (hear-attempt bytes) k r s = (hear_attempt_spec s r bytes).session
  back decide k r s = (decide_spec s r k).session
  back form k r s = (form_spec s r k).session
  back recover k r s = no_session
  back (write-state out) k r s = (write_state_spec s r out).session
  back (write-attempt out) k r s = (write_attempt_spec s r out).session

  -- the changes that its stores make, in order, none where it is refused; recover completes changes and makes none
  abbrev pub changes : Call → List ℕ → Session → List Change
  changes (enter view) r s = enter_changes s r view (S.members view)
  changes (hear-state bytes) r s = []
  changes (hear-attempt bytes) r s = []
  changes decide r s = decides_changes s r
  changes form r s = forms_changes s r
  changes recover r s = []
  changes (write-state out) r s = []
  changes (write-attempt out) r s = []

-- the line that a writing call wrote, if it wrote one: the first characters of its output
abbrev pub line_of : Said → List ℕ → List (List ℕ)
line_of (written n) out = take n out ∷ []
line_of started out = []
line_of recovered out = []
line_of entered out = []
line_of heard out = []
line_of attempted out = []
line_of no-quorum out = []
line_of numbers-run-out out = []
line_of no_place out = []
line_of formed out = []
line_of cut out = []
line_of (refused n) out = []

abbrev pub lines_of : Wrote → List (List ℕ)
lines_of w = line_of w.answer w.out

abbrev pub writes : Call → List ℕ → Session → List (List ℕ)
writes (enter view) r s = []
writes (hear-state bytes) r s = []
writes (hear-attempt bytes) r s = []
writes decide r s = []
writes form r s = []
writes recover r s = []
writes (write-state out) r s = lines_of (write_state_spec s r out)
writes (write-attempt out) r s = lines_of (write_attempt_spec s r out)

-- the session in word 3 after a call, where the call changed that word
abbrev pub newly : ℕ → ℕ → List ℕ
newly before after = cond (eqb after before) [] (after ∷ [])

-- "A session is formed when a form call has stored word 3"
abbrev pub forms : Call → ℕ → List ℕ → Session → List ℕ
forms (enter view) k r s = []
forms (hear-state bytes) k r s = []
forms (hear-attempt bytes) k r s = []
forms decide k r s = []
forms form k r s = newly (primary r) (primary (form_spec s r k).words)
forms recover k r s = []
forms (write-state out) k r s = []
forms (write-attempt out) k r s = []

-- ---- steps

abbrev pub signed : ℕ → List (List ℕ) → List Sent
signed p [] = []
signed p (b ∷ bs) = record { by = p; bytes = b } ∷ signed p bs

-- head p replaced
abbrev pub seated : ℕ → Head → (ℕ → Head) → ℕ → Head
seated p h heads q = cond (eqb q p) h (heads q)

-- "each call gets the session its head last got back, or none"
abbrev pub given : Bool → Session → Session
given lost s = cond lost no_session s

module _ (S : Setting) where
  -- nothing has happened: only the core group's session, (W0, 0), counts as formed
  unfoldable pub empty : World
  empty = record { head = λ p. unstarted; sent = []; formed = S.core ∷ [] }

  -- a call on head p, given session s
  abbrev pub call_on : ℕ → ℕ → Call → List ℕ → Session → World → World
  call_on p k c r s W = record {
    head = seated p (running (leaves S c k r s) (back S c k r s)) W.head;
    sent = signed p (writes c r s) ++ W.sent;
    formed = forms c k r s ++ W.formed;
  }

  abbrev pub called : ℕ → Bool → ℕ → Call → Head → World → World
  called p lost k c unstarted W = W
  called p lost k c (running r s) W = call_on p k c r (given lost s) W

  unfoldable pub step : Event → World → World
  step (start p words q) W = record {
    head = seated p (running (start_spec words p S.core q).rec no_session) W.head;
    sent = W.sent;
    formed = W.formed;
  }
  step (call p lost k c) W = called p lost k c (W.head p) W

-- "Each state or attempt line heard in it was written before by the head it names as sender": bytes that do not read may come from anywhere
abbrev pub SentBefore : List Sent → List ℕ → Line → Type 0
SentBefore L bytes (line.StateLine view sender) = Memᴰ (record { by = sender; bytes = bytes }) L
SentBefore L bytes (line.AttemptLine view sender) = Memᴰ (record { by = sender; bytes = bytes }) L
SentBefore L bytes (line.Broken rule) = Unit {0}

-- "views 1 to 4,294,967,295": enter is given a number of 32 bits, and refuses 0 by itself
abbrev pub Given : World → Call → Type 0
Given W (enter view) = view < 4294967296
Given W (hear-state bytes) = SentBefore W.sent bytes (read_whole bytes).line
Given W (hear-attempt bytes) = SentBefore W.sent bytes (read_whole bytes).line
Given W decide = Unit {0}
Given W form = Unit {0}
Given W recover = Unit {0}
Given W (write-state out) = Unit {0}
Given W (write-attempt out) = Unit {0}

-- each head number is started once, on 52 words, and takes the one Q
pub record MayStart (S : Setting) (W : World) (p : ℕ) (words : List ℕ) (q : ℕ) : Type 0 where
  pub seat : p < 16
  pub once : W.head p ≡ unstarted
  pub long : length words ≡ 52
  pub takes : taken_least q ≡ S.least

abbrev pub May : Setting → World → Event → Type 0
May S W (start p words q) = MayStart S W p words q
May S W (call p lost k c) = Given W c

pub data History (S : Setting) : World → Type 0 where
  begin : History S (empty S)
  more : {W : World} (e : Event) → May S W e → History S W → History S (step S e W)

-- ---- one count

-- the formed sessions "have different numbers and, in order, each shares a head with the one before", the core group's first
pub record OneCount (S : Setting) (L : List ℕ) : Type 0 where
  pub unique : (a b : ℕ) → Memᴰ a L → Memᴰ b L → num a ≡ num b → a ≡ b
  pub first : Memᴰ S.core L
  pub chain : (a b : ℕ) → Memᴰ a L → Memᴰ b L → num a < num b
      → ((d : ℕ) → Memᴰ d L → num a < num d → num d < num b → ⊥) → Share a b

-- a session put in its place by number; nothing where its number is there already
unfoldable pub insert : ℕ → List ℕ → List ℕ
insert w [] = w ∷ []
insert w (v ∷ L) = cond (ltb (num w) (num v)) (w ∷ v ∷ L) (cond (eqb (num w) (num v)) (v ∷ L) (v ∷ insert w L))

-- the sessions in order of number, each once
unfoldable pub in_order : List ℕ → List ℕ
in_order [] = []
in_order (w ∷ L) = insert w (in_order L)

-- from session w on the numbers rise, and each session shares a head with the one before
pub data Linked : ℕ → List ℕ → Type 0 where
  last : {w : ℕ} → Linked w []
  link : {w v : ℕ} {L : List ℕ} → num w < num v → Share w v → Linked v L → Linked w (v ∷ L)

-- the same of the list in order, as it can be printed: it has the formed sessions and no others, and from the core group's on it is linked
pub record Ordered (S : Setting) (L : List ℕ) : Type 0 where
  pub rest : List ℕ
  pub starts : in_order L ≡ S.core ∷ rest
  pub linked : Linked S.core rest
  pub sound : (w : ℕ) → Memᴰ w (in_order L) → Memᴰ w L
  pub complete : (w : ℕ) → Memᴰ w L → Memᴰ w (in_order L)

-- ---- recovery

-- after a call with k stores at most on record r that leaves x, and whose changes cs each store something: recovery gives the record of the changes done; cut
-- and run again it ends the same; and it ends, with 49 stores or more: word 2, 16 last formed words, 16 session words and 16 marks words at most change
pub record Recovers (r x : List ℕ) (k : ℕ) (cs : List Change) : Type 0 where
  pub stores : all_non_empty cs ≡ true
  pub done : mended x ≡ apply (begun k cs) (mended r)
  pub again : (j : ℕ) → mended (recover_spec x j).rec ≡ mended x
  pub ends : (j : ℕ) → (recover_spec x j).answer ≡ recovered → (recover_spec x j).rec ≡ mended x
  pub enough : (j : ℕ) → 49 ≤ j → (recover_spec x j).answer ≡ recovered

-- a head of a history with record r and session s: recover does not refuse it, a whole record is its own recovery, and refusal 2 ("record not 52 words .. or not
-- whole .., or session not fitting it") never falls on the recovered record, with the head's own session or with none
pub record Ready (r : List ℕ) (s : Session) : Type 0 where
  pub mends : mendable r ≡ true
  pub same : whole r ≡ true → mended r ≡ r
  pub own-fits : usable s (mended r) ≡ true
  pub none-fits : usable no_session (mended r) ≡ true

-- every call but recover is refused with 2 and changes nothing
pub record OnlyRecovery (r : List ℕ) (s : Session) : Type 0 where
  pub enter-is : (view m k : ℕ) → enter_spec s r view m k ≡ refuses 2 r s
  pub hear-state-is : (bytes : List ℕ) → hear_state_spec s r bytes ≡ refuses 2 r s
  pub hear-attempt-is : (bytes : List ℕ) → hear_attempt_spec s r bytes ≡ refuses 2 r s
  pub decide-is : (k : ℕ) → decide_spec s r k ≡ refuses 2 r s
  pub form-is : (k : ℕ) → form_spec s r k ≡ refuses 2 r s
  pub write-state-is : (out : List ℕ) → write_state_spec s r out ≡ record { answer = refused 2; session = s; out = out }
  pub write-attempt-is : (out : List ℕ) → write_attempt_spec s r out ≡ record { answer = refused 2; session = s; out = out }

-- ---- what is proved, of every setting S

module _ (S : Setting) where
  abbrev pub AlwaysOneCount : Type 0
  AlwaysOneCount = (W : World) → History S W → OneCount S W.formed

  abbrev pub AlwaysOrdered : Type 0
  AlwaysOrdered = (W : World) → History S W → Ordered S W.formed

  abbrev pub AlwaysRecovers : Type 0
  AlwaysRecovers = (W : World) → History S W → (p k : ℕ) (lost : Bool) (c : Call) → Given W c → (r : List ℕ) (s : Session) → W.head p ≡ running r s
      → Recovers r (leaves S c k r (given lost s)) k (changes S c r (given lost s))

  -- so no call answers 2 but to a head that has yet to recover
  abbrev pub NeverUnfit : Type 0
  NeverUnfit = (W : World) → History S W → (p : ℕ) (r : List ℕ) (s : Session) → W.head p ≡ running r s → Ready r s

abbrev pub RecoveryAlone : Type 0
RecoveryAlone = (r : List ℕ) (s : Session) → whole r ≡ false → OnlyRecovery r s
