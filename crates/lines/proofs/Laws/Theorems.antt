-- The theorems of specs/Theorems. One form and the rules kept come from taking the first line apart, the way back from the written frame's fields; the others
-- follow from these two.
use mathlib.Core.Path.{◌≡◌, refl, sym, ap, ◌∙◌, subst}
use mathlib.Core.Bool.{true, false}
use mathlib.Core.List.{List, [], ◌∷◌, ◌++◌, append-nil}
use mathlib.Core.Logic.{◌⊎◌, inl, inr, ⊎_elim}
use Prim.Native.Nat.{ℕ, suc, ◌+◌, ◌≤◌, ◌<◌}
use native.Mathlib.Omega.{arith}
use borrow.Author.Tests.{ltb-true, eqb-true, eqb-false}
use lib.ListN.{length, length-append, drop_of_length-le}
use lib.Dec.{ltb, eqb}
use Rattle.loops.proofs.Laws.Truth.{cond-elim, passes-or-fails}
use Rattle.state.specs.declared.State.{State}
use Rattle.state.specs.Rules.{rule4, rule5, rule6, rule7, broken}
use Rattle.lines.specs.Read.{Line, Read, StateLine, AttemptLine, Broken}
use Rattle.lines.specs.Hex.{hex_of, unhex, line_end, line_of, rest_of}
use Rattle.lines.specs.Reading.{kind_of, sender_of, state_of, rule1, rule2, rule3, later_broken, first_broken, carried, answer, judged, read_line, read_whole, breaks}
use Rattle.lines.specs.Writing.{attempt_frame, state_frame, line_for, attempt_line, state_line}
use Rattle.lines.specs.Theorems.{KeptLine, Keeps, line_with, written, WasRead, OneForm, OneFormWhole, ReadKeeps, WholeKeeps, ReadsBack, WholeBack, OneLine, OneValue, Total, NotBoth, Walks}
use Rattle.lines.proofs.Laws.Reading.{none_read, first-line, whole-line}
use Rattle.lines.proofs.Laws.HexBack.{Bytes, first-split}
use Rattle.lines.proofs.Laws.Trip.{from-line, line-end-back, rest_back, bytes-attempt, attempt-back, bytes-state, state-back}
use Rattle.lines.proofs.Laws.Walk as walk

-- ---- the first line, and the one line, by cases

by_first : (P : Read → Type 0) (s : List ℕ) → (line_end s < length s → P (judged (line_of s))) → P (breaks 1) → P (read_line s)
unfolding read_line
by_first P s f g = cond-elim P (ltb (line_end s) (length s)) _ _ (λ e. f (ltb-true _ _ e)) (λ e. g)

by_whole : (P : Read → Type 0) (s : List ℕ) → (line_end s + 1 ≡ length s → P (judged (line_of s))) → P (breaks 1) → P (read_whole s)
unfolding read_whole
by_whole P s f g = cond-elim P (eqb (line_end s + 1) (length s)) _ _ (λ e. f (eqb-true _ _ e)) (λ e. g)

-- ---- one form, and the rules kept

pub one_form : OneForm
one_form s =
    by_first (λ (r : Read). WasRead r → s ≡ written r ++ rest_of s) s
    (λ h w. first-split s h ∙ ap (λ (x : List ℕ). x ++ rest_of s) (from-line (line_of s) w).1)
    (λ w. absurd (none_read 1 w))

nothing_left : (s : List ℕ) → line_end s + 1 ≡ length s → rest_of s ≡ []
unfolding rest_of
nothing_left s e = drop_of_length-le s {i = suc (line_end s)} (omega arith)

pub one-form-whole : OneFormWhole
one-form-whole s =
    by_whole (λ (r : Read). WasRead r → s ≡ written r) s
    (λ h w.
    first-split s (omega arith)
    ∙ ap (λ (x : List ℕ). (line_of s ++ (10 ∷ [])) ++ x) (nothing_left s h)
    ∙ append-nil (line_of s ++ (10 ∷ []))
    ∙ (from-line (line_of s) w).1)
    (λ w. absurd (none_read 1 w))

pub read_keeps : ReadKeeps
read_keeps s = by_first (λ (r : Read). WasRead r → Keeps r) s (λ h w. (from-line (line_of s) w).0) (λ w. absurd (none_read 1 w))

pub whole-keeps : WholeKeeps
whole-keeps s = by_whole (λ (r : Read). WasRead r → Keeps r) s (λ h w. (from-line (line_of s) w).0) (λ w. absurd (none_read 1 w))

-- ---- the way back

back : (l : Line) (st : State) (x : List ℕ) → KeptLine l st → (read_line (line_with l st ++ x) ≡ record { line = l; state = st }) × (rest_of (line_with l st ++ x) ≡ x)
unfolding state_line attempt_line
back (StateLine v p) st x g = (state-back v p st g x, rest_back (state_frame v p st) x (bytes-state v p st g))
back (AttemptLine v p) st x g = (
  attempt-back v p g.0 x ∙ ap (λ (y : State). record { line = AttemptLine v p; state = y }) (sym g.1),
  rest_back (attempt_frame v p) x (bytes-attempt v p g.0),
)
back (Broken k) st x g = absurd g

pub reads-back : ReadsBack
reads-back r x g = back r.line r.state x g

whole-is-first : (f : List ℕ) → Bytes f → read_whole (line_for f) ≡ read_line (line_for f)
unfolding line_for
whole-is-first f h =
    let x = hex_of f ++ (10 ∷ []) in
    let e = ap line_end (sym (append-nil x)) ∙ line-end-back f [] h in
    let n = length-append (hex_of f) (10 ∷ []) in
    whole-line x (omega arith) ∙ sym (first-line x (omega arith))

whole : (l : Line) (st : State) → KeptLine l st → read_whole (line_with l st) ≡ read_line (line_with l st)
unfolding state_line attempt_line
whole (StateLine v p) st g = whole-is-first (state_frame v p st) (bytes-state v p st g)
whole (AttemptLine v p) st g = whole-is-first (attempt_frame v p) (bytes-attempt v p g.0)
whole (Broken k) st g = absurd g

pub whole_back : WholeBack
whole_back r g = whole r.line r.state g ∙ ap read_line (sym (append-nil (written r))) ∙ (reads-back r [] g).0

-- ---- different values, different lines

pub one_line : OneLine
one_line q r gq gr e = sym (whole_back q gq) ∙ ap read_whole e ∙ whole_back r gr

pub one_value : OneValue
one_value s t w e = one-form-whole s w ∙ ap written e ∙ sym (one-form-whole t (subst WasRead e w))

-- ---- every text gets one outcome

broken-le : (st : State) (p : ℕ) → broken st p ≤ 7
unfolding broken
broken-le st p =
    cond-elim (λ (n : ℕ). n ≤ 7) (rule4 st) _ _
    (λ a. cond-elim (λ (n : ℕ). n ≤ 7) (rule5 st p) _ _
    (λ b. cond-elim (λ (n : ℕ). n ≤ 7) (rule6 st p) _ _
    (λ c. cond-elim (λ (n : ℕ). n ≤ 7) (rule7 st) _ _ (λ d. omega arith) (λ d. omega arith))
    (λ c. omega arith))
    (λ b. omega arith))
    (λ a. omega arith)

first-le : (l : List ℕ) → first_broken l ≤ 7
unfolding first_broken later_broken
first-le l =
    cond-elim (λ (n : ℕ). n ≤ 7) (rule1 l) _ _
    (λ a. cond-elim (λ (n : ℕ). n ≤ 7) (rule2 (length l) (unhex l)) _ _
    (λ b. cond-elim (λ (n : ℕ). n ≤ 7) (rule3 (unhex l)) _ _
    (λ c. cond-elim (λ (n : ℕ). n ≤ 7) (eqb (kind_of (unhex l)) 1) _ _ (λ d. broken-le (state_of (unhex l)) (sender_of (unhex l))) (λ d. omega arith))
    (λ c. omega arith))
    (λ b. omega arith))
    (λ a. omega arith)

carried-read : (f : List ℕ) → WasRead (carried f)
unfolding carried
carried-read f = cond-elim WasRead (eqb (kind_of f) 1) _ _ (λ a. refl) (λ a. refl)

-- a line was read, or the first broken rule's number is known
pub judged-cases : (l : List ℕ) → WasRead (judged l) ⊎ ((k : ℕ) × (1 ≤ k) × (k ≤ 7) × (judged l ≡ breaks k))
unfolding judged answer
judged-cases l = ⊎_elim kept broke (passes-or-fails (eqb (first_broken l) 0))
  where
    kept : eqb (first_broken l) 0 ≡ true → WasRead (judged l) ⊎ ((k : ℕ) × (1 ≤ k) × (k ≤ 7) × (judged l ≡ breaks k))
    kept e = inl (rw e (carried-read (unhex l)))

    broke : eqb (first_broken l) 0 ≡ false → WasRead (judged l) ⊎ ((k : ℕ) × (1 ≤ k) × (k ≤ 7) × (judged l ≡ breaks k))
    broke e = inr (first_broken l, omega (arith, eqb-false (first_broken l) 0 e), first-le l, rw e)

pub total : Total
total s =
    by_first (λ (r : Read). Keeps r ⊎ ((k : ℕ) × (1 ≤ k) × (k ≤ 7) × (r ≡ breaks k))) s
    (λ h. ⊎_elim (λ w. inl (from-line (line_of s) w).0) (λ b. inr b) (judged-cases (line_of s)))
    (inr (1, omega arith, omega arith, refl))

pub not-both : NotBoth
unfolding breaks
not-both s k e r x g q =
    let same : r ≡ breaks k = sym (reads-back r x g).0 ∙ ap read_line (sym q) ∙ e in
    subst Keeps same g

pub walks : Walks
walks = walk.walks
