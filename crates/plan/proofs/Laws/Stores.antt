-- The stores of a change, one call after the other, are the change.
use mathlib.Core.Path.{◌≡◌, sym, ap, ◌∙◌}
use mathlib.Core.Bool.{Bool, true, false, not, cond}
use mathlib.Core.List.{List, [], ◌∷◌, ◌++◌}
use Prim.Native.Nat.{ℕ, ◌+◌, ◌≤◌, ◌<◌}
use native.Mathlib.Omega.{arith}
use lib.Dec.{eqb, ltb}
use lib.ListN.{get_or}
use borrow.Author.Tests.{lt-ltb, le-ltb}
use Rattle.loops.specs.Below.{collect, table}
use Rattle.loops.proofs.Laws.Lists.{get_d-table, collect-cong}
use Rattle.group.specs.Heads.{has}
use Rattle.group.specs.Words.{num, session, rank}
use Rattle.store.specs.declared.Pen.{Pen}
use Rattle.store.specs.Desk.{Desk, desk, put_to, run, store_if}
use Rattle.store.specs.Program.{step_by, exec}
use Rattle.store.specs.Changes.{Change}
use Rattle.store.proofs.Laws.Script.{run-append, collect-again}
use Rattle.record.specs.Layout.{number, primary, place_at, store_number, store_primary, store_formed, store_place, store_marks}
use Rattle.recovery.specs.Changes.{clear_change, past, formed_stores, adopt_change, attempt_change, form_change}
use Rattle.plan.specs.Form.{view_session, form_step}

pub clear-chain : (c : Bool) (i : ℕ) (d : Desk) {d₁ d₂ : Desk} → d₁ ≡ run (store_if c (store_place i 0)) d → d₂ ≡ run (store_if c (store_marks i 0)) d₁
    → d₂ ≡ run (cond c (clear_change i) []) d
unfolding run store_if clear_change
clear-chain true i d p q = q ∙ ap (put_to (store_marks i 0)) p
clear-chain false i d p q = q ∙ p

pub attempt-chain : (i w : ℕ) (d : Desk) {n : ℕ} {d₁ d₂ : Desk} → n ≡ num w → d₁ ≡ put_to (store_place i w) d → d₂ ≡ put_to (store_number n) d₁
    → d₂ ≡ run (attempt_change i w) d
unfolding run attempt_change
attempt-chain i w d {d₁ = d₁} e p q = q ∙ ap (λ (k : ℕ). put_to (store_number k) d₁) e ∙ ap (put_to (store_number (num w))) p

-- the turn of the loop that sets last formed
pub formed-again : (w : ℕ) (d₀ : Desk) {b : Bool} {d d' : Desk} (q : ℕ) → d ≡ run (collect q (λ k. store_if (has w k) (store_formed k w))) d₀ → b ≡ has w q
    → d' ≡ run (store_if b (store_formed q w)) d → d' ≡ run (collect (q + 1) (λ k. store_if (has w k) (store_formed k w))) d₀
formed-again w d₀ {d = d} q e b s =
    collect-again (λ k. store_if (has w k) (store_formed k w)) d₀ q e (s ∙ ap (λ (t : Bool). run (store_if t (store_formed q w)) d) b)

-- the clearings of the places that a table names
abbrev pub cleared : List Bool → Change
cleared table = collect 16 (λ i. cond (get_or table i false) (clear_change i) [])

abbrev pub taken_over : ℕ → Bool → List Bool → Change
taken_over w rises cs = store_primary w ∷ (store_if rises (store_number (num w)) ++ (formed_stores w ++ cleared cs))

pub take-chain : (w : ℕ) (rises : Bool) (cs : List Bool) (d : Desk) {n : ℕ} {d₁ d₂ d₃ d₄ : Desk} → n ≡ num w
    → d₁ ≡ put_to (store_primary w) d → d₂ ≡ run (store_if rises (store_number n)) d₁ → d₃ ≡ run (formed_stores w) d₂ → d₄ ≡ run (cleared cs) d₃
    → d₄ ≡ run (taken_over w rises cs) d
unfolding run
take-chain w rises cs d {d₁ = d₁} e p q s t =
    t ∙ ap (run (cleared cs)) (s ∙ ap (run (formed_stores w))
    (q ∙ ap (λ (k : ℕ). run (store_if rises (store_number k)) d₁) e ∙ ap (run (store_if rises (store_number (num w)))) p))
    ∙ sym (run-append (store_if rises (store_number (num w))) (formed_stores w ++ cleared cs) (put_to (store_primary w) d)
    ∙ run-append (formed_stores w) (cleared cs) (run (store_if rises (store_number (num w))) (put_to (store_primary w) d)))

-- the clearings that a table of a test names are those of the test
cleared_by : (test : ℕ → Bool) → cleared (table 16 test) ≡ collect 16 (λ i. cond (test i) (clear_change i) [])
cleared_by test = collect-cong 16 _ _ (λ i h. ap (λ (c : Bool). cond c (clear_change i) []) (get_d-table 16 test i false h))

pub adoption-is : (r : List ℕ) (w : ℕ) → taken_over w (ltb (number r) (num w)) (table 16 (past r w)) ≡ adopt_change r w
unfolding adopt_change
adoption-is r w =
    ap (λ (a : Change). store_primary w ∷ (store_if (ltb (number r) (num w)) (store_number (num w)) ++ (formed_stores w ++ a))) (cleared_by (past r w))

pub form-is : (r : List ℕ) (w : ℕ) → taken_over w false (table 16 (λ i. not (eqb (place_at r i) 0))) ≡ form_change r w
unfolding form_change store_if
form-is r w = ap (λ (a : Change). store_primary w ∷ (formed_stores w ++ a)) (cleared_by (λ i. not (eqb (place_at r i) 0)))

-- ---- the calls that make them, from what their parts computed

pub adopt-by : (r : List ℕ) (w : ℕ) (d : Desk) {n k : ℕ} {cs : List Bool} {d' : Desk} → n ≡ number r → k ≡ num w → cs ≡ table 16 (past r w)
    → d' ≡ run (taken_over w (ltb n k) cs) d → d' ≡ run (adopt_change r w) d
adopt-by r w d en ek ec e = e ∙ ap (λ (a : Change). run a d) (rw (en, ek, ec) (adoption-is r w))

pub adopt-not : (r : List ℕ) (w : ℕ) (d : Desk) {a p b : ℕ} → a ≡ rank w → p ≡ primary r → b ≡ rank p → a ≤ b
    → d ≡ run (cond (ltb (rank (primary r)) (rank w)) (adopt_change r w) []) d
unfolding run
adopt-not r w d ea ep eb h = rw (le-ltb (rank (primary r)) (rank w) (omega (arith, eb ∙ ap rank ep)))

pub adopt-done : (r : List ℕ) (w : ℕ) (d : Desk) {a p b : ℕ} {d' : Desk} → a ≡ rank w → p ≡ primary r → b ≡ rank p → b < a
    → d' ≡ run (adopt_change r w) d → d' ≡ run (cond (ltb (rank (primary r)) (rank w)) (adopt_change r w) []) d
adopt-done r w d ea ep eb h e = e ∙ rw (lt-ltb (rank (primary r)) (rank w) (omega (arith, eb ∙ ap rank ep)))

pub form-by : (m : ℕ) (r : List ℕ) (pen : Pen) {n w : ℕ} {cs : List Bool} {d' : Desk} → n ≡ number r → w ≡ session n m
    → cs ≡ table 16 (λ i. not (eqb (place_at r i) 0)) → d' ≡ run (taken_over w false cs) (desk r pen) → d' ≡ exec (form_step m ∷ []) (desk r pen)
unfolding exec step_by form_step view_session
form-by m r pen en ew ec e = e ∙ ap (λ (a : Change). run a (desk r pen)) (rw (ec, ew, en) (form-is r (session (number r) m)))
