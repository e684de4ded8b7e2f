-- Recovery of a whole record stores nothing: each step would store what is there already.
use mathlib.Core.Bool.{true}
use mathlib.Core.Logic.{⊎_elim}
use mathlib.Core.Path.{◌≡◌, sym, ◌∙◌}
use mathlib.Core.List.{List, [], ◌∷◌, ◌++◌}
use Prim.Native.Nat.{ℕ, zero, suc, ◌<◌}
use native.Mathlib.Nat.{le_antisymm}
use native.Mathlib.Omega.{arith}
use lib.Dec.{eqb, leb}
use borrow.Author.Tests.{eqb-true, leb-true}
use Rattle.loops.proofs.Laws.Truth.{and_right, not-both}
use Rattle.group.specs.Heads.{has}
use Rattle.group.specs.Words.{rank, session_word}
use Rattle.group.proofs.Laws.Formed.{Formed, Formed.member as member, Formed.none as none, Formed.lower as lower, formed-cases}
use Rattle.store.specs.Desk.{apply}
use Rattle.store.specs.Program.{Step, script, after, up_to}
use Rattle.store.proofs.Laws.Program.{script-append, script-one, up_to-none, up_to-next}
use Rattle.record.specs.Layout.{own, number, primary, formed_for, place_at, marks_at}
use Rattle.record.specs.Whole.{formed_whole, marks_whole, whole}
use Rattle.record.proofs.Laws.Layout.{number-puts, formed-puts, place-puts, marks-puts, not-stored}
use Rattle.record.proofs.Laws.Whole.{Whole, whole_parts, place-cases, place-number, marks-free}
use Rattle.recovery.specs.Recover.{greatest, raise_step, formed_step, clear_step, wipe_step, mend_program, mended}
use Rattle.recovery.specs.Statements.{StoresNothing}
use Rattle.recovery.proofs.Laws.Greatest.{greatest-le, number-le}

-- ---- what a whole record has

module _ (r : List ℕ) (w : Whole r) where
  pub whole-greatest : greatest r ≡ number r
  whole-greatest = le_antisymm (greatest-le r (number r) (omega arith) w.highest (place-number r w)) (number-le r)

  pub whole-formed : (q : ℕ) → q < 16 → has (primary r) q ≡ true → formed_for r q ≡ primary r
  unfolding formed_whole
  whole-formed q h m = go (formed-cases (own r) (primary r) q (formed_for r q) (and_right (session_word (formed_for r q)) _ (w.formed q h)))
    where
      go : Formed (own r) (primary r) q (formed_for r q) → formed_for r q ≡ primary r
      go (member i e) = e
      go (none o z) = absurd (not-both (has (primary r) q) m o)
      go (lower o a b l) = absurd (not-both (has (primary r) q) m o)

  pub whole-place : (i : ℕ) → i < 16 → leb (rank (place_at r i)) (rank (primary r)) ≡ true → place_at r i ≡ 0
  whole-place i h t =
      ⊎_elim (λ z. z) (λ u. absurd (omega (arith, u.above, leb-true (rank (place_at r i)) (rank (primary r)) t))) (place-cases r i (w.places i h))

  pub whole-marks : (i : ℕ) → i < 16 → place_at r i ≡ 0 → marks_at r i ≡ 0
  unfolding marks_whole
  whole-marks i h z = eqb-true (marks_at r i) 0 (sym (marks-free (own r) (place_at r i) (marks_at r i) z) ∙ w.marks i h)

-- ---- programs that store nothing

append-nothing : (a b : List Step) (r : List ℕ) → script a r ≡ [] → script b r ≡ [] → script (a ++ b) r ≡ []
unfolding apply
append-nothing a b r e f = script-append a b r ∙ rw (e, f)

up_to-nothing : (f : ℕ → Step) (n : ℕ) (r : List ℕ) → ((i : ℕ) → i < n → f i r ≡ []) → script (up_to n f) r ≡ []
unfolding script
up_to-nothing f zero r h = rw (up_to-none f)
up_to-nothing f (suc n) r h =
    rw (up_to-next n f) (append-nothing (up_to n f) (f n ∷ []) r (up_to-nothing f n r (λ i l. h i (omega arith))) (script-one (f n) r ∙ h n (omega arith)))

-- RECOVERY OF A WHOLE RECORD STORES NOTHING
pub still : StoresNothing
unfolding mend_program raise_step formed_step clear_step wipe_step
still r e =
    let w = whole_parts r e in
    append-nothing (raise_step ∷ []) (up_to 16 formed_step ++ (up_to 16 clear_step ++ up_to 16 wipe_step)) r
    (script-one raise_step r ∙ not-stored (number-puts (greatest r)) true r (λ t. sym (whole-greatest r w)))
    (append-nothing (up_to 16 formed_step) (up_to 16 clear_step ++ up_to 16 wipe_step) r
    (up_to-nothing formed_step 16 r (λ q h. not-stored (formed-puts q (primary r)) (has (primary r) q) r (whole-formed r w q h)))
    (append-nothing (up_to 16 clear_step) (up_to 16 wipe_step) r
    (up_to-nothing clear_step 16 r (λ i h. not-stored (place-puts i 0) (leb (rank (place_at r i)) (rank (primary r))) r (whole-place r w i h)))
    (up_to-nothing wipe_step 16 r (λ i h. not-stored (marks-puts i 0) (eqb (place_at r i) 0) r (λ t. whole-marks r w i h (eqb-true (place_at r i) 0 t))))))

pub mended-whole : (r : List ℕ) → whole r ≡ true → mended r ≡ r
unfolding mended after apply
mended-whole r e = rw (still r e)
