-- A head's record by its words, and each change of document 01 as a condition on the words before and after: what the definition of a call has
-- to deliver. A record is given by its accessors, so no layout is assumed. Session words are crate group's: `heads`, `num`, `rank`.
use Rattle.std.specs.Prelude.{◌≡◌, ◌⊎◌, ◌≢◌, cond, ℕ, suc, max, ◌≤◌, ◌<◌, ltb}
use Rattle.group.specs.Words.{heads, num, rank}
use Rattle.chain.specs.Model.{Sess, Group}

-- "highest view entered", "session number", "last primary", "last formed, for heads 0-15", the session word and "the marks of each place"
pub record Rec : Type 0 where
  pub view : ℕ
  pub num : ℕ
  pub prim : ℕ
  pub formed : ℕ → ℕ
  pub place : ℕ → ℕ
  pub mark : ℕ → ℕ

-- what a state line says: "session number 4, last primary 6, last formed 16 x 6, count 1, count x 6 places"; a place past the count is 0
pub record Said : Type 0 where
  pub num : ℕ
  pub prim : ℕ
  pub formed : ℕ → ℕ
  pub place : ℕ → ℕ

-- the session of a word
abbrev pub sess : ℕ → Sess
sess w = record { heads = heads w; number = num w }

-- word w is the session of the heads s and the number n
pub record Is (w s n : ℕ) : Type 0 where
  pub some : w ≢ 0
  pub set : heads w ≡ s
  pub number : num w ≡ n

-- w is in one of sixteen places
abbrev pub Listed : (ℕ → ℕ) → ℕ → Type 0
Listed f w = (i : ℕ) × (i < 16) × (f i ≡ w)

-- a function of the sixteen heads, 0 past them: for `formed`, whose accessor may read other words there
unfoldable pub guard : (ℕ → ℕ) → ℕ → ℕ
guard f x = cond (ltb x 16) (f x) 0

-- a state line of record r: "of the record's values"; its places may stand in another order
pub record Self (r : Rec) (s : Said) : Type 0 where
  pub num : s.num ≡ r.num
  pub prim : s.prim ≡ r.prim
  pub formed : (x : ℕ) → s.formed x ≡ r.formed x
  pub lists : (w : ℕ) → w ≢ 0 → Listed r.place w → Listed s.place w

-- what entering, marking and clearing leave as it was: r is the record before, r' after
pub record Stay (r r' : Rec) : Type 0 where
  pub num : r'.num ≡ r.num
  pub prim : r'.prim ≡ r.prim
  pub formed : (x : ℕ) → r'.formed x ≡ r.formed x

-- a place and its marks stay
abbrev pub Keeps : Rec → Rec → ℕ → Type 0
Keeps r r' i = (r'.place i ≡ r.place i) × (r'.mark i ≡ r.mark i)

module _ (G : Group) where
  -- M, of the view that the record is in, has x
  abbrev pub Member : Rec → ℕ → Type 0
  Member r x = G.In x (G.members r.view)

  -- (M, n)
  abbrev pub Here : Rec → ℕ → Sess
  Here r n = record { heads = G.members r.view; number = n }

  -- "Fresh: core heads have last primary (W0, 0), and last formed the same for heads of W0; all else is 0. Heads outside W0 have none."
  pub record Fresh (p : ℕ) (r : Rec) : Type 0 where
    pub view : r.view ≡ 0
    pub num : r.num ≡ 0
    pub prim : (r.prim ≡ 0) ⊎ (Is r.prim G.core 0 × G.In p G.core)
    pub formed : (x : ℕ) → (r.formed x ≡ 0) ⊎ (Is (r.formed x) G.core 0 × Is r.prim G.core 0 × G.In x G.core)
    pub place : (i : ℕ) → i < 16 → r.place i ≡ 0

  -- ---- the changes, from record r to record r'; `said q` is the state heard from q

  -- "Enter (view, heads M): stores word 1"; refused "own head (enter) .. not in M" and "view at or below word 1"
  pub record Enters (p v : ℕ) (r r' : Rec) : Type 0 where
    pub above : r.view < v
    pub mine : G.In p (G.members v)
    pub view : r'.view ≡ v
    pub stay : Stay r r'
    pub keeps : (i : ℕ) → i < 16 → Keeps r r' i

  -- "a. mark q in place S if q is in S and M and q's last formed for p has a number below S's": some mark words change
  pub record Marks (p : ℕ) (said : ℕ → Said) (r r' : Rec) : Type 0 where
    pub view : r'.view ≡ r.view
    pub stay : Stay r r'
    pub place : (i : ℕ) → i < 16 → r'.place i ≡ r.place i
    pub mark : (i q : ℕ) → i < 16 → G.In q (r'.mark i) → (G.In q (r.mark i)) ⊎ ((q ≢ p) × Member r q × (rank ((said q).formed p) < rank (r.place i)))

  -- "b. adopt the highest-numbered last formed for p among the q .. if above own last primary's: it becomes last primary, and last formed for
  -- each of its heads; word 2 rises to its number if lower; places numbered at or below it are cleared"
  pub record Adopts (p : ℕ) (said : ℕ → Said) (r r' : Rec) : Type 0 where
    pub word : ℕ
    pub from : ℕ
    pub member : Member r from
    pub other : from ≢ p
    pub told : (said from).formed p ≡ word
    pub above : rank r.prim < rank word
    pub view : r'.view ≡ r.view
    pub number : r'.num ≡ max r.num (num word)
    pub prim : r'.prim ≡ word
    pub formed : (x : ℕ) → ((r'.formed x ≡ word) × G.In x (heads word)) ⊎ (r'.formed x ≡ r.formed x)
    pub place : (i : ℕ) → i < 16 → (Keeps r r' i × (rank word < rank (r.place i))) ⊎ ((r'.place i ≡ 0) × (rank (r.place i) ≤ rank word))

  -- "c. clear each place S left whose heads less p are all marked, or for which some q in S and M doesn't list S and has a last primary with a
  -- lower number, or the same number and other heads"
  abbrev pub Cleared : ℕ → (ℕ → Said) → Rec → ℕ → Type 0
  Cleared p said r i =
      ((x : ℕ) → G.In x (heads (r.place i)) → x ≢ p → G.In x (r.mark i))
      ⊎ ((q : ℕ) × G.In q (heads (r.place i)) × Member r q × (q ≢ p)
      × (¬ (Listed (said q).place (r.place i))) × (rank (said q).prim ≤ rank (r.place i)) × ((said q).prim ≢ r.place i))

  -- some places are cleared
  pub record Clears (p : ℕ) (said : ℕ → Said) (r r' : Rec) : Type 0 where
    pub view : r'.view ≡ r.view
    pub stay : Stay r r'
    pub place : (i : ℕ) → i < 16 → Keeps r r' i ⊎ ((r'.place i ≡ 0) × (r.place i ≢ 0 → Cleared p said r i))

  -- "d. highest number, highest primary ..: over M, own values as after c. Weigh that primary, and every listed session numbered above it ..
  -- If M passes the quorum test for all, attempt: (M, highest + 1) goes in the lowest free place with no marks and word 2 takes its number."
  -- `said p` has p's own values as in r.
  pub record Attempts (p : ℕ) (said : ℕ → Said) (r r' : Rec) : Type 0 where
    pub number : ℕ
    pub high : (x : ℕ) → Member r x → (said x).num < number
    pub tight : (x : ℕ) × Member r x × (number ≡ suc (said x).num)
    pub best : ℕ
    pub best-some : best ≢ 0
    pub best-from : (x : ℕ) × Member r x × ((said x).prim ≡ best)
    pub best-top : (x : ℕ) → Member r x → rank (said x).prim ≤ rank best
    pub pass : G.passes (heads best) (G.members r.view)
    pub weigh : (x i : ℕ) → Member r x → i < 16 → rank best < rank ((said x).place i) → G.passes (heads ((said x).place i)) (G.members r.view)
    pub at : ℕ
    pub at_place : at < 16
    pub was : r.place at ≡ 0
    pub put : Is (r'.place at) (G.members r.view) number
    pub bare : (x : ℕ) → ¬ (G.In x (r'.mark at))
    pub rest : (i : ℕ) → i < 16 → i ≢ at → Keeps r r' i
    pub view : r'.view ≡ r.view
    pub num : r'.num ≡ number
    pub prim : r'.prim ≡ r.prim
    pub formed : (x : ℕ) → r'.formed x ≡ r.formed x

  -- "Form ..: (M, word 2) becomes last primary, and last formed for each head of M; all places are cleared"
  pub record Forms (r r' : Rec) : Type 0 where
    pub word : ℕ
    pub is : Is word (G.members r.view) r.num
    pub view : r'.view ≡ r.view
    pub num : r'.num ≡ r.num
    pub prim : r'.prim ≡ word
    pub formed : (x : ℕ) → ((r'.formed x ≡ word) × Member r x) ⊎ ((r'.formed x ≡ r.formed x) × ¬ (Member r x))
    pub place : (i : ℕ) → i < 16 → r'.place i ≡ 0
