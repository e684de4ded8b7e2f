-- The protocol of document 01 as changes of a head's state, without words, lines or stores: what a head holds, which changes it makes,
-- and what allows each. Only what the chain rests on is asked: where document 01 asks more of a change, the comment says so.
use Rattle.std.specs.Prelude.{◌≡◌, ◌⊎◌, ◌≢◌, ℕ, suc, ◌≤◌, ◌<◌}

-- "A session is a set of heads and a number." A set of heads is a number too; which heads it has, a `Group` says.
pub record Sess : Type 0 where
  pub heads : ℕ
  pub number : ℕ

-- a session, or none
pub data Maybe : Type 0 where
  none : Maybe
  real : Sess → Maybe

-- "None" counts as number -1: none ranks 0, a session one above its number
abbrev pub rank_of : Maybe → ℕ
rank_of none = 0
rank_of (real S) = suc S.number

-- What all heads have in common. `In x s`: head x is in the set s. `passes s t`: "Sub-quorum of S by T". `enough t`: "T has at least Q heads of W0".
-- `members v`: the one membership that view number v stands for. `core`: W0, "the core group".
pub record Group : Type 1 where
  pub In : ℕ → ℕ → Type 0
  pub passes : ℕ → ℕ → Type 0
  pub enough : ℕ → Type 0
  pub members : ℕ → ℕ
  pub core : ℕ

-- some head is in both sets: which one
abbrev pub Meet : Group → ℕ → ℕ → Type 0
Meet G s t = (x : ℕ) × G.In x s × G.In x t

-- The laws that the chain rests on.
pub record Lawful (G : Group) : Type 0 where
  -- "Sub-quorum of S by T holds exactly when T has at least Q heads of W0 and .."
  pub passes-enough : (s t : ℕ) → G.passes s t → G.enough t
  -- "Two sets that pass against one S share a head."
  pub passes-meet : (s t u : ℕ) → G.passes s t → G.passes s u → Meet G t u
  -- "T shares a head with S if S itself has Q heads of W0."
  pub enough-meet : (s t : ℕ) → G.enough s → G.passes s t → Meet G s t
  -- "Q the minimum, 1 to the size of W0"
  pub core-enough : G.enough G.core

-- (W0, 0)
abbrev pub core_sess : Group → Sess
core_sess G = record { heads = G.core; number = 0 }

-- What a head holds ("The record"): highest view entered, session number, last primary, last formed for each head, the ambiguous sessions
-- in its places, and the heads marked in each. `tried` is not in the record: the view of the head's last attempt, 0 before any.
pub record Local : Type 1 where
  pub view : ℕ
  pub num : ℕ
  pub tried : ℕ
  pub prim : Maybe
  pub formed : ℕ → Maybe
  pub places : Sess → Type 0
  pub marks : Sess → ℕ → Type 0

-- What a head does in one change. `tidy`: marks and clearings of decide's a and c, any number of them or none.
pub data Event : Type 0 where
  tidy : Event
  enter : ℕ → Event
  adopt : Sess → Event
  attempt : Sess → Event
  form : Sess → Event

-- "Fresh: core heads have last primary (W0, 0), and last formed the same for heads of W0; all else is 0. Heads outside W0 have none."
pub record Init (G : Group) (h : ℕ) (l : Local) : Type 1 where
  pub view : l.view ≡ 0
  pub num : l.num ≡ 0
  pub tried : l.tried ≡ 0
  pub prim : (l.prim ≡ none) ⊎ ((l.prim ≡ real (core_sess G)) × G.In h G.core)
  pub formed : (x : ℕ) → (l.formed x ≡ none) ⊎ ((l.formed x ≡ real (core_sess G)) × (l.prim ≡ real (core_sess G)) × G.In x G.core)
  pub places : (S : Sess) → ¬ (l.places S)
  pub marks : (S : Sess) (x : ℕ) → ¬ (l.marks S x)

-- what entering, marking and clearing leave as it was
pub record Still (l l' : Local) : Type 1 where
  pub num : l'.num ≡ l.num
  pub tried : l'.tried ≡ l.tried
  pub prim : l'.prim ≡ l.prim
  pub formed : (x : ℕ) → l'.formed x ≡ l.formed x

-- Head h goes from l to l'. `Snap x v m`: x entered view v, and m is its state right after that: what its state lines of view v carry
-- ("Write state line, of the record's values, from entry until decided"). `Att x v`: x has attempted in view v, as its attempt lines say.
-- `early`, wherever it stands: h has not attempted in its view yet (refused is "decide or write state after deciding", and d comes last).
module _ (G : Group) (Snap : ℕ → ℕ → Local → Type 1) (Att : ℕ → ℕ → Type 1) (h : ℕ) (l l' : Local) where
  -- "a. mark q in place S if q is in S and M and q's last formed for p has a number below S's". That q is in S is not asked.
  pub record MarkOk (S : Sess) (q : ℕ) : Type 1 where
    pub listed : l.places S
    pub early : l.tried < l.view
    pub sent : Local
    pub snap : Snap q l.view sent
    pub low : rank_of (sent.formed h) ≤ S.number

  -- "some q in S and M doesn't list S and has a last primary with a lower number, or the same number and other heads"
  pub record Denial (S : Sess) : Type 1 where
    pub who : ℕ
    pub member : G.In who S.heads
    pub sent : Local
    pub snap : Snap who l.view sent
    pub unlisted : ¬ (sent.places S)
    pub low : rank_of sent.prim ≤ suc S.number
    pub other : ¬ (sent.prim ≡ real S)

  -- "c. clear each place S left whose heads less p are all marked, or for which some q .."; which of them are cleared is free
  pub record ClearOk (S : Sess) : Type 1 where
    pub early : l.tried < l.view
    pub why : ((x : ℕ) → G.In x S.heads → x ≢ h → l.marks S x) ⊎ Denial S

  -- some marks of a and some clearings of c
  pub record TidyOk : Type 1 where
    pub view : l'.view ≡ l.view
    pub still : Still l l'
    pub shrink : (S : Sess) → l'.places S → l.places S
    pub keep : (S : Sess) → l.places S → (l'.places S) ⊎ ClearOk S
    pub marks : (S : Sess) (x : ℕ) → l'.marks S x → (l.marks S x) ⊎ MarkOk S x

  -- "Enter (view, heads M): stores word 1"; refused "own head (enter) .. not in M" and "view at or below word 1"
  pub record EnterOk (v : ℕ) : Type 1 where
    pub up : l.view < v
    pub mine : G.In h (G.members v)
    pub view : l'.view ≡ v
    pub still : Still l l'
    pub shrink : (S : Sess) → l'.places S → l.places S
    pub keep : (S : Sess) → l.places S → l'.places S
    pub marks : (S : Sess) (x : ℕ) → l'.marks S x → l.marks S x

  -- "b. adopt the highest-numbered last formed for p among the q .. if above own last primary's: it becomes last primary, and last formed for
  -- each of its heads; word 2 rises to its number if lower; places numbered at or below it are cleared". That it is the highest is not asked.
  pub record AdoptOk (F : Sess) : Type 1 where
    pub early : l.tried < l.view
    pub who : ℕ
    pub member : G.In who (G.members l.view)
    pub sent : Local
    pub snap : Snap who l.view sent
    pub told : sent.formed h ≡ real F
    pub above : rank_of l.prim ≤ F.number
    pub view : l'.view ≡ l.view
    pub tried : l'.tried ≡ l.tried
    pub prim : l'.prim ≡ real F
    pub formed : (x : ℕ) → ((l'.formed x ≡ real F) × G.In x F.heads) ⊎ (l'.formed x ≡ l.formed x)
    pub num-up : l.num ≤ l'.num
    pub num-low : F.number ≤ l'.num
    pub num-top : (l'.num ≤ l.num) ⊎ (l'.num ≤ F.number)
    pub shrink : (S : Sess) → l'.places S → (l.places S) × (F.number < S.number)
    pub keep : (S : Sess) → l.places S → (l'.places S) ⊎ (S.number ≤ F.number)
    pub marks : (S : Sess) (x : ℕ) → l'.marks S x → l.marks S x

  -- what h weighs for member x: "own as after c and others as received"
  pub record Heard (x : ℕ) : Type 1 where
    pub state : Local
    pub why : ((x ≡ h) × (state ≡ l)) ⊎ Snap x l.view state

  -- "d. highest number, highest primary ..: over M, own values as after c. Weigh that primary, and every listed session numbered above it ..
  -- If M passes the quorum test for all, attempt: (M, highest + 1) goes in the lowest free place with no marks and word 2 takes its number."
  pub record AttemptOk (S : Sess) : Type 1 where
    pub early : l.tried < l.view
    pub heads : S.heads ≡ G.members l.view
    pub mine : G.In h S.heads
    pub hear : (x : ℕ) → G.In x S.heads → Heard x
    pub own : l.num < S.number
    pub high : (x : ℕ) (i : G.In x S.heads) → (hear x i).state.num < S.number
    pub tight : (x : ℕ) × (i : G.In x S.heads) × (S.number ≡ suc (hear x i).state.num)
    pub best : Sess
    pub best-from : (x : ℕ) × (i : G.In x S.heads) × ((hear x i).state.prim ≡ real best)
    pub best-top : (x : ℕ) (i : G.In x S.heads) → rank_of (hear x i).state.prim ≤ suc best.number
    pub pass : G.passes best.heads S.heads
    pub weigh : (x : ℕ) (i : G.In x S.heads) (F : Sess) → (hear x i).state.places F → best.number < F.number → G.passes F.heads S.heads
    pub view : l'.view ≡ l.view
    pub num : l'.num ≡ S.number
    pub tried : l'.tried ≡ l.view
    pub prim : l'.prim ≡ l.prim
    pub formed : (x : ℕ) → l'.formed x ≡ l.formed x
    pub grow : (F : Sess) → l'.places F → (l.places F) ⊎ (F ≡ S)
    pub keep : (F : Sess) → l.places F → l'.places F
    pub placed : l'.places S
    pub marks : (F : Sess) (x : ℕ) → l'.marks F x → l.marks F x

  -- "Form, once all attempts of M are in: (M, word 2) becomes last primary, and last formed for each head of M; all places are cleared"
  pub record FormOk (S : Sess) : Type 1 where
    pub heads : S.heads ≡ G.members l.view
    pub number : S.number ≡ l.num
    pub mine : G.In h S.heads
    pub all : (x : ℕ) → G.In x S.heads → Att x l.view
    pub view : l'.view ≡ l.view
    pub num : l'.num ≡ l.num
    pub tried : l'.tried ≡ l.tried
    pub prim : l'.prim ≡ real S
    pub formed : (x : ℕ) → ((l'.formed x ≡ real S) × G.In x S.heads) ⊎ ((l'.formed x ≡ l.formed x) × ¬ (G.In x S.heads))
    pub shrink : (F : Sess) → ¬ (l'.places F)
    pub marks : (F : Sess) (x : ℕ) → l'.marks F x → l.marks F x

  -- what allows a change
  abbrev pub Ok : Event → Type 1
  Ok tidy = TidyOk
  Ok (enter v) = EnterOk v
  Ok (adopt F) = AdoptOk F
  Ok (attempt S) = AttemptOk S
  Ok (form S) = FormOk S
