-- The kinds of change, each as its stores in order (document 01, "Stores and cuts"). Crate store has what they share: each is done at its first store.
use Rattle.std.specs.Prelude.{Bool, not, cond, ◌&&◌, List, [], ◌∷◌, ◌++◌, ℕ, eqb, leb, ltb}
use Rattle.loops.specs.Below.{collect}
use Rattle.group.specs.Heads.{has}
use Rattle.group.specs.Words.{num, rank}
use Rattle.store.specs.Desk.{Store, store_if}
use Rattle.store.specs.Changes.{Change}
use Rattle.record.specs.Layout.{number, place_at, store_entered, store_number, store_primary, store_formed, store_place, store_marks}

-- "Enter: word 1, one change."
unfoldable pub entry_change : ℕ → Change
entry_change view = store_entered view ∷ []

-- "Each mark word .. is one change"
unfoldable pub mark_change : ℕ → ℕ → Change
mark_change i marks = store_marks i marks ∷ []

-- a place cleared: "each cleared place's session word then its marks word"
unfoldable pub clear_change : ℕ → Change
clear_change i = store_place i 0 ∷ (store_marks i 0 ∷ [])

-- place i is used and numbered at or below session w
unfoldable pub past : List ℕ → ℕ → ℕ → Bool
past r w i = not (eqb (place_at r i) 0) && leb (rank (place_at r i)) (rank w)

-- "last formed words by head": those of the heads of w
unfoldable pub formed_stores : ℕ → List Store
formed_stores w = collect 16 (λ q. store_if (has w q) (store_formed q w))

-- "adoption: word 3, word 2 if it rises, last formed words by head, each cleared place's session word then its marks word"
unfoldable pub adopt_change : List ℕ → ℕ → Change
adopt_change r w =
    store_primary w
    ∷ (store_if (ltb (number r) (num w)) (store_number (num w)) ++ (formed_stores w ++ collect 16 (λ i. cond (past r w i) (clear_change i) [])))

-- "the attempt: place word, word 2"
unfoldable pub attempt_change : ℕ → ℕ → Change
attempt_change i w = store_place i w ∷ (store_number (num w) ∷ [])

-- "Form: word 3, last formed words, then each used place's two words."
unfoldable pub form_change : List ℕ → ℕ → Change
form_change r w = store_primary w ∷ (formed_stores w ++ collect 16 (λ i. cond (not (eqb (place_at r i) 0)) (clear_change i) []))
