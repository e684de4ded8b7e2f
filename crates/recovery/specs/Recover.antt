-- Recovery (document 01, "Stores and cuts"): "Recovery of a cut record, in order: raise word 2 to the greatest number in word 3 and the places; set last formed
-- for the heads of last primary; zero the session words of places at or below its number; zero the marks of free places. It stores only words that change."
use Rattle.std.specs.Prelude.{Bool, true, ◌&&◌, cond, List, ◌∷◌, ◌++◌, ℕ, max, eqb, leb, ltb, length, take}
use Rattle.loops.specs.Below.{fold_below}
use Rattle.group.specs.Heads.{has}
use Rattle.group.specs.Words.{num, rank}
use Rattle.group.specs.Answers.{cut, recovered, refused}
use Rattle.store.specs.Desk.{apply, diff_if}
use Rattle.store.specs.Program.{Step, script, after, up_to}
use Rattle.record.specs.Layout.{number, primary, place_at, store_number, store_formed, store_place, store_marks}
use Rattle.record.specs.Whole.{whole}
use Rattle.record.specs.Outcome.{Outcome}

abbrev pub higher : List ℕ → ℕ → ℕ → ℕ
higher r i top = max top (num (place_at r i))

-- "the greatest number in word 3 and the places", and word 2's own: the step raises word 2 and never lowers it
unfoldable pub greatest : List ℕ → ℕ
greatest r = fold_below 16 (higher r) (max (number r) (num (primary r)))

-- "raise word 2 to the greatest number in word 3 and the places"
unfoldable pub raise_step : Step
raise_step r = diff_if true (store_number (greatest r)) r

-- "set last formed for the heads of last primary": head q
unfoldable pub formed_step : ℕ → Step
formed_step q r = diff_if (has (primary r) q) (store_formed q (primary r)) r

-- "zero the session words of places at or below its number": place i
unfoldable pub clear_step : ℕ → Step
clear_step i r = diff_if (leb (rank (place_at r i)) (rank (primary r))) (store_place i 0) r

-- "zero the marks of free places": place i
unfoldable pub wipe_step : ℕ → Step
wipe_step i r = diff_if (eqb (place_at r i) 0) (store_marks i 0) r

unfoldable pub mend_program : List Step
mend_program = raise_step ∷ (up_to 16 formed_step ++ (up_to 16 clear_step ++ up_to 16 wipe_step))

-- the recovered record
unfoldable pub mended : List ℕ → List ℕ
mended r = after mend_program r

-- refusal 2: "record not 52 words .. or not whole (recover: not whole even after its steps"
unfoldable pub mendable : List ℕ → Bool
mendable r = eqb (length r) 52 && whole (mended r)

-- the call, given the number of stores it may make: "A call that needs more ends after that many with the answer "cut""; "Refusals come first."
unfoldable pub recover_spec : List ℕ → ℕ → Outcome
recover_spec r stores =
    cond (mendable r)
    (record { answer = cond (ltb stores (length (script mend_program r))) cut recovered; rec = apply (take stores (script mend_program r)) r })
    (record { answer = refused 2; rec = r })
