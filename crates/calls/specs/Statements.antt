-- What is proved of the calls beside the code's contracts, for every call at once. The proofs are in proofs/Laws.
use Rattle.std.specs.Prelude.{true, ◌≡◌, List, [], ℕ, ◌<◌, length, take}
use Rattle.group.specs.Answers.{Said, cut, refused}
use Rattle.store.specs.Desk.{apply}
use Rattle.store.specs.Changes.{Change, all_non_empty, all_stores, begun}
use Rattle.record.specs.Whole.{whole}
use Rattle.recovery.specs.Recover.{mended}
use Rattle.recovery.specs.Statements.{Sounds}
use Rattle.plan.specs.Members.{held_of}
use Rattle.head.specs.declared.session.Session.{Session}
use Rattle.head.specs.declared.session.Next.{Next}
use Rattle.head.specs.Session.{no_session}
use Rattle.head.specs.Fits.{fits}
use Rattle.head.specs.Calls.{Ended, ended, Wrote, wrote, enter_spec, hear_state_spec, hear_attempt_spec, decide_spec, form_spec, write_state_spec, write_attempt_spec, enter_changes, decides_changes, forms_changes}

-- a call and what it is given beside the session and the record: the view, the heads M and the stores of an entry, the line heard, the stores, the output
pub data Call : Type 0 where
  enter : ℕ → ℕ → ℕ → Call
  hear-state hear-attempt : List ℕ → Call
  decide form : ℕ → Call
  write-state write-attempt : List ℕ → Call

-- what it leaves; a call that is given no output leaves none
pub record Left : Type 0 where
  pub answer : Said
  pub words : List ℕ
  pub session : Session
  pub out : List ℕ

abbrev pub ending : Ended → Left
ending e = record { answer = e.answer; words = e.words; session = e.session; out = [] }

abbrev pub writing : List ℕ → Wrote → Left
writing r w = record { answer = w.answer; words = r; session = w.session; out = w.out }

abbrev pub leaves : Call → Session → List ℕ → Left
leaves (enter view m k) s r = ending (enter_spec s r view m k)
leaves (hear-state line) s r = ending (hear_state_spec s r line)
leaves (hear-attempt line) s r = ending (hear_attempt_spec s r line)
leaves (decide k) s r = ending (decide_spec s r k)
leaves (form k) s r = ending (form_spec s r k)
leaves (write-state out) s r = writing r (write_state_spec s r out)
leaves (write-attempt out) s r = writing r (write_attempt_spec s r out)

abbrev pub output_of : Call → List ℕ
output_of (enter view m k) = []
output_of (hear-state line) = []
output_of (hear-attempt line) = []
output_of (decide k) = []
output_of (form k) = []
output_of (write-state out) = out
output_of (write-attempt out) = out

-- what the contract of a call's code says of the words (of a writing call the output) v and the answer and session x that it left
abbrev pub Allowed : Call → Session → List ℕ → List ℕ → Next → Type 0
Allowed (enter view m k) s r v x = ended v x ≡ enter_spec s r view m k
Allowed (hear-state line) s r v x = ended v x ≡ hear_state_spec s r line
Allowed (hear-attempt line) s r v x = ended v x ≡ hear_attempt_spec s r line
Allowed (decide k) s r v x = ended v x ≡ decide_spec s r k
Allowed (form k) s r v x = ended v x ≡ form_spec s r k
Allowed (write-state out) s r v x = wrote v x ≡ write_state_spec s r out
Allowed (write-attempt out) s r v x = wrote v x ≡ write_attempt_spec s r out

-- "prove that two outcomes allowed by it are equal"
abbrev pub Determined : Type 0
Determined = (c : Call) (s : Session) (r v w : List ℕ) (x y : Next) → Allowed c s r v x → Allowed c s r w y → (v ≡ w) × (x ≡ y)

-- "Numbers a refused call returns": "Record, session and output buffer keep their contents."
abbrev pub RefusedKeeps : Type 0
RefusedKeeps =
    (c : Call) (s : Session) (r : List ℕ) (n : ℕ) → (leaves c s r).answer ≡ refused n
    → leaves c s r ≡ record { answer = refused n; words = r; session = s; out = output_of c }

-- "ends after that many with the answer "cut" and no session"
abbrev pub CutLeavesNone : Type 0
CutLeavesNone = (c : Call) (s : Session) (r : List ℕ) → (leaves c s r).answer ≡ cut → (leaves c s r).session ≡ no_session

-- what the widths of the code's numbers say of a session and of a call
pub record Sized (s : Session) : Type 0 where
  pub members : s.members < 65536
  pub states : s.states < 65536
  pub attempts : s.attempts < 65536
  pub slots : length s.held.of ≡ 16
  pub numbers : (q : ℕ) → q < 16 → (held_of s.held q).number < 4294967296

abbrev pub CallSized : Call → Type 0
CallSized (enter view m k) = (view < 4294967296) × (m < 65536)
CallSized (hear-state line) = Unit
CallSized (hear-attempt line) = Unit
CallSized (decide k) = Unit
CallSized (form k) = Unit
CallSized (write-state out) = Unit
CallSized (write-attempt out) = Unit

-- a whole record and a session that fits it
pub record Good (s : Session) (r : List ℕ) : Type 0 where
  pub sound : whole r ≡ true
  pub fit : fits s r ≡ true
  pub sized : Sized s

-- every call that is not cut leaves the like
abbrev pub KeptByEveryCall : Type 0
KeptByEveryCall =
    (c : Call) (s : Session) (r : List ℕ) → CallSized c → Good s r → ((leaves c s r).answer ≡ cut → ⊥) → Good (leaves c s r).session (leaves c s r).words

-- the changes of a call, and the stores it may make
abbrev pub changes_by : Call → Session → List ℕ → List Change
changes_by (enter view m k) s r = enter_changes s r view m
changes_by (hear-state line) s r = []
changes_by (hear-attempt line) s r = []
changes_by (decide k) s r = decides_changes s r
changes_by (form k) s r = forms_changes s r
changes_by (write-state out) s r = []
changes_by (write-attempt out) s r = []

abbrev pub stores_of : Call → ℕ
stores_of (enter view m k) = k
stores_of (hear-state line) = 0
stores_of (hear-attempt line) = 0
stores_of (decide k) = k
stores_of (form k) = k
stores_of (write-state out) = 0
stores_of (write-attempt out) = 0

-- the words that a call leaves are those of the first stores of its changes
abbrev pub StoresItsChanges : Type 0
StoresItsChanges = (c : Call) (s : Session) (r : List ℕ) → (leaves c s r).words ≡ apply (take (stores_of c) (all_stores (changes_by c s r))) r

-- each of its changes stores something
abbrev pub NoEmptyChange : Type 0
NoEmptyChange = (c : Call) (s : Session) (r : List ℕ) → all_non_empty (changes_by c s r) ≡ true

-- and they are changes as recovery completes them
abbrev pub SoundChanges : Type 0
SoundChanges = (c : Call) (s : Session) (r : List ℕ) → CallSized c → Good s r → Sounds (changes_by c s r) r

-- "The recovered record is the one after the done changes.": for each number of stores
abbrev pub RecoversEveryCall : Type 0
RecoversEveryCall =
    (c : Call) (s : Session) (r : List ℕ) → CallSized c → Good s r → mended (leaves c s r).words ≡ apply (begun (stores_of c) (changes_by c s r)) r
