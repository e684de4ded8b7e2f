-- What is proved of recovery and of the changes, beside document 01's sentences ("Stores and cuts"). Under proofs/Laws: Call proves EndsRecovered and
-- Determined, Still proves StoresNothing, Cut proves EndsTheSame, NotBegun, RecoversDone and CutAndWhole, Small and Adopt prove that each kind of change is sound.
use Rattle.std.specs.Prelude.{true, ◌≡◌, List, [], ◌∷◌, ℕ, suc, ◌≤◌, ◌<◌, take, Result}
use Rattle.group.specs.Heads.{has}
use Rattle.group.specs.Words.{heads, num, rank, session_word}
use Rattle.group.specs.declared.answers.Answer.{Answer}
use Rattle.group.specs.declared.answers.Refusal.{Refusal}
use Rattle.group.specs.Answers.{recovered}
use Rattle.group.specs.Quorum.{enough}
use Rattle.store.specs.Desk.{apply}
use Rattle.store.specs.Program.{script}
use Rattle.store.specs.Changes.{Change, non_empty, all_stores, begun}
use Rattle.record.specs.Layout.{core, least, own, number, primary, place_at}
use Rattle.record.specs.Whole.{marks_ok, whole}
use Rattle.record.specs.Outcome.{outcome}
use Rattle.recovery.specs.Recover.{mend_program, mended, recover_spec}
use Rattle.recovery.specs.Changes.{entry_change, mark_change, clear_change, attempt_change, adopt_change, form_change}

-- ---- recovery

-- "It stores only words that change": of a whole record none
abbrev pub StoresNothing : Type 0
StoresNothing = (r : List ℕ) → whole r ≡ true → script mend_program r ≡ []

-- "Recovery cut and run again ends the same.": after any number of stores the recovered record is the same
abbrev pub EndsTheSame : Type 0
EndsTheSame = (r : List ℕ) (k : ℕ) → mended (recover_spec r k).rec ≡ mended r

-- where it is not cut it leaves the recovered record, and that is whole
abbrev pub EndsRecovered : Type 0
EndsRecovered = (r : List ℕ) (k : ℕ) → (recover_spec r k).answer ≡ recovered → ((recover_spec r k).rec ≡ mended r) × (whole (mended r) ≡ true)

-- the contract leaves nothing open: two outcomes that it allows are equal
abbrev pub Determined : Type 0
Determined =
    (r : List ℕ) (k : ℕ) (a b : List ℕ) (x y : Result Answer Refusal) → outcome a x ≡ recover_spec r k → outcome b y ≡ recover_spec r k → (a ≡ b) × (x ≡ y)

-- ---- one change

-- a change of a whole record: it has a first word, and once that is stored recovery gives exactly the record after it, which is whole
pub record Sound (r : List ℕ) (c : Change) : Type 0 where
  pub before : whole r ≡ true
  pub stores : non_empty c ≡ true
  pub cut : (k : ℕ) → mended (apply (take (suc k) c) r) ≡ apply c r
  pub after : whole (apply c r) ≡ true

-- cut before its first store, recovery gives exactly the record before it
abbrev pub NotBegun : Type 0
NotBegun = (r : List ℕ) (c : Change) → Sound r c → mended (apply (take 0 c) r) ≡ r

abbrev pub EntrySound : Type 0
EntrySound = (r : List ℕ) (view : ℕ) → whole r ≡ true → view ≤ 4294967295 → Sound r (entry_change view)

-- marks that a whole record may have
abbrev pub MarkSound : Type 0
MarkSound = (r : List ℕ) (i m : ℕ) → whole r ≡ true → i < 16 → marks_ok (own r) (place_at r i) m ≡ true → Sound r (mark_change i m)

abbrev pub ClearSound : Type 0
ClearSound = (r : List ℕ) (i : ℕ) → whole r ≡ true → i < 16 → Sound r (clear_change i)

-- a session that may stand in a place, in a free one, with a number above word 2
abbrev pub AttemptSound : Type 0
AttemptSound =
    (r : List ℕ) (i w : ℕ) → whole r ≡ true → i < 16 → place_at r i ≡ 0 → session_word w ≡ true → has w (own r) ≡ true
    → enough (core r) (least r) (heads w) ≡ true → number r < num w → Sound r (attempt_change i w)

-- a session with own head, above last primary
abbrev pub AdoptSound : Type 0
AdoptSound =
    (r : List ℕ) (w : ℕ) → whole r ≡ true → session_word w ≡ true → has w (own r) ≡ true → rank (primary r) < rank w → Sound r (adopt_change r w)

-- the same, numbered as word 2
abbrev pub FormSound : Type 0
FormSound =
    (r : List ℕ) (w : ℕ) → whole r ≡ true → session_word w ≡ true → has w (own r) ≡ true → rank (primary r) < rank w → num w ≡ number r
    → Sound r (form_change r w)

-- ---- a call's changes, one after the other

pub data Sounds : List Change → List ℕ → Type 0 where
  last : {r : List ℕ} → whole r ≡ true → Sounds [] r
  next : {r : List ℕ} {c : Change} {cs : List Change} → Sound r c → Sounds cs (apply c r) → Sounds (c ∷ cs) r

-- "The recovered record is the one after the done changes.": after any number of stores
abbrev pub RecoversDone : Type 0
RecoversDone = (cs : List Change) (r : List ℕ) → Sounds cs r → (k : ℕ) → mended (apply (take k (all_stores cs)) r) ≡ apply (begun k cs) r

-- a record cut and still whole is the record after the done changes: no call needs to tell a cut record from a whole one
abbrev pub CutAndWhole : Type 0
CutAndWhole =
    (cs : List Change) (r : List ℕ) → Sounds cs r → (k : ℕ) → whole (apply (take k (all_stores cs)) r) ≡ true
    → apply (take k (all_stores cs)) r ≡ apply (begun k cs) r
