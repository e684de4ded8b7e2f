-- A record under a pen (document 01, "Stores and cuts"): "Enter, decide, form and recover are also given the number of stores they may make.
-- A call that needs more ends after that many with the answer "cut""; "Words are stored singly".
use Rattle.std.specs.Prelude.{Bool, true, false, List, [], ◌∷◌, ℕ, zero, suc, eqb, get_or, set}
use Rattle.store.specs.declared.Pen.{Pen}
use Rattle.store.specs.declared.Pen.TheVariants.{Left, Cut}

-- one word stored: where, and what
pub record Store : Type 0 where
  pub at : ℕ
  pub word : ℕ

abbrev pub store : ℕ → ℕ → Store
store i w = record { at = i; word = w }

-- the record and the pen
pub record Desk : Type 0 where
  pub rec : List ℕ
  pub pen : Pen

abbrev pub desk : List ℕ → Pen → Desk
desk r p = record { rec = r; pen = p }

-- the pen of a call that may make k stores
abbrev pub budget : ℕ → Pen
budget k = Left k

-- the pen was asked for a store more than it had
abbrev pub is_cut : Pen → Bool
is_cut (Left k) = false
is_cut Cut = true

-- the record with the word stored
unfoldable pub stored : Store → List ℕ → List ℕ
stored s r = set r s.at s.word

-- one store under a pen: nothing once cut; cut where none is left; else the word is stored
abbrev pub put_at : Pen → Store → List ℕ → Desk
put_at Cut s r = desk r Cut
put_at (Left zero) s r = desk r Cut
put_at (Left (suc n)) s r = desk (stored s r) (Left n)

unfoldable pub put_to : Store → Desk → Desk
put_to s d = put_at d.pen s d.rec

-- a script: its stores in order
unfoldable pub run : List Store → Desk → Desk
run [] d = d
run (s ∷ ss) d = run ss (put_to s d)

-- what a script makes of a record where nothing cuts it
unfoldable pub apply : List Store → List ℕ → List ℕ
apply [] r = r
apply (s ∷ ss) r = apply ss (stored s r)

-- a store where asked
unfoldable pub store_if : Bool → Store → List Store
store_if true s = s ∷ []
store_if false s = []

-- "It stores only words that change": no store where the word is there already
abbrev pub differs : Bool → Store → List Store
differs true s = []
differs false s = s ∷ []

unfoldable pub where_changed : Store → List ℕ → List Store
where_changed s r = differs (eqb (get_or r s.at 0) s.word) s

unfoldable pub diff_if : Bool → Store → List ℕ → List Store
diff_if true s r = where_changed s r
diff_if false s r = []
