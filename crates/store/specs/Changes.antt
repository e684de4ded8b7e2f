-- A call's stores as changes, one after the other, each a few stores and never none (document 01, "Stores and cuts"): "Each mark word and each clearing under c
-- is one change, done once its first word is stored."
use Rattle.std.specs.Prelude.{Bool, true, false, ◌&&◌, List, [], ◌∷◌, ◌++◌, ℕ, zero, suc, ◌-◌, length}
use Rattle.store.specs.Desk.{Store, apply}
use Rattle.store.specs.Program.{Step}

abbrev pub Change : Type 0
Change = List Store

-- a change stores something: only then has it a first word to be done at
unfoldable pub non_empty : Change → Bool
non_empty [] = false
non_empty (s ∷ c) = true

unfoldable pub all_non_empty : List Change → Bool
all_non_empty [] = true
all_non_empty (c ∷ cs) = non_empty c && all_non_empty cs

-- the stores of all of them
unfoldable pub all_stores : List Change → List Store
all_stores [] = []
all_stores (c ∷ cs) = c ++ all_stores cs

-- the stores of the changes begun, and so done, once k stores are made
unfoldable pub begun : ℕ → List Change → List Store
begun k [] = []
begun zero (c ∷ cs) = []
begun (suc k) (c ∷ cs) = c ++ begun (suc k - length c) cs

-- what each step of a program stores
unfoldable pub step_stores : List Step → List ℕ → List (List Store)
step_stores [] r = []
step_stores (f ∷ fs) r = f r ∷ step_stores fs (apply (f r) r)

-- those among them that store something
unfoldable pub made : List (List Store) → List Change
made [] = []
made ([] ∷ cs) = made cs
made ((s ∷ c) ∷ cs) = (s ∷ c) ∷ made cs

-- the changes of a program: each step is one, or none where it has nothing to store
unfoldable pub changes_of : List Step → List ℕ → List Change
changes_of fs r = made (step_stores fs r)
