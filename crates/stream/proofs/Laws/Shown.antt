-- What a line prints fits four times its length, and a line of 420 characters or more before its newline prints `R 3`: a line that reads is a written one, so
-- its length is known.
use mathlib.Core.Path.{◌≡◌, refl, sym, ap, ◌∙◌}
use mathlib.Core.List.{List, [], ◌∷◌, ◌++◌, append_assoc}
use mathlib.Core.Logic.{⊎_elim}
use Prim.Native.Nat.{ℕ, ◌+◌, ◌*◌, ◌≤◌, ◌<◌}
use native.Mathlib.Omega.{arith}
use lib.ListN.{length, length-append}
use Rattle.state.specs.declared.State.{State}
use Rattle.lines.specs.Read.{Line, StateLine, AttemptLine, Broken, Read}
use Rattle.lines.specs.Hex.{line_end, line_of, rest_of}
use Rattle.lines.specs.Reading.{breaks, judged, read_line}
use Rattle.lines.specs.Walk.{whole_lines}
use Rattle.lines.specs.Theorems.{KeptLine, line_with}
use Rattle.lines.proofs.Laws.Reading.{first-line}
use Rattle.lines.proofs.Laws.Writing.{length-attempt-line, length-state-line}
use Rattle.lines.proofs.Laws.Trip.{from-line}
use Rattle.lines.proofs.Laws.Walk.{first-whole, walks}
use Rattle.lines.proofs.Laws.Theorems.{judged-cases}
use Rattle.shown.specs.Shown.{refused_text, shown, printed, room}

-- ---- lengths of written lines

module _ (st : State) where
  line-room : (l : Line) → KeptLine l st → room l ≤ 4 * length (line_with l st)
  line-room (StateLine v p) g = omega (arith, length-state-line v p st g.tidy.formed (omega (arith, g.tidy.places, g.tidy.count)))
  line-room (AttemptLine v p) g = omega (arith, length-attempt-line v p)
  line-room (Broken k) g = absurd g

  line-short : (l : Line) → KeptLine l st → length (line_with l st) ≤ 419
  line-short (StateLine v p) g =
      omega (arith, length-state-line v p st g.tidy.formed (omega (arith, g.tidy.places, g.tidy.count)), g.tidy.count)
  line-short (AttemptLine v p) g = omega (arith, length-attempt-line v p)
  line-short (Broken k) g = absurd g

-- ---- a line's room

broken-room : (k : ℕ) → room (breaks k).line ≡ 4
unfolding breaks
broken-room k = refl

pub room-le : (l : List ℕ) → room (judged l).line ≤ 4 * (length l + 1)
room-le l =
    ⊎_elim
    (λ w.
    let f = from-line l w in
    let n = line-room (judged l).state (judged l).line f.0 in
    omega (arith, sym (ap length f.1) ∙ length-append l (10 ∷ [])))
    (λ b. omega (arith, ap (λ (r : Read). room r.line) b.3 ∙ broken-room b.0))
    (judged-cases l)

-- ---- a long line

pub broken-shown : (k : ℕ) → shown (breaks k) ≡ refused_text
unfolding breaks
broken-shown k = refl

pub long-refused : (l : List ℕ) → 420 ≤ length l → shown (judged l) ≡ refused_text
long-refused l h =
    ⊎_elim
    (λ w.
    let f = from-line l w in
    let n = line-short (judged l).state (judged l).line f.0 in
    absurd (omega (arith, sym (ap length f.1) ∙ length-append l (10 ∷ []))))
    (λ b. ap shown b.3 ∙ broken-shown b.0)
    (judged-cases l)

-- ---- lines one after the other

pub printed-append : (a b : List (List ℕ)) → printed (a ++ b) ≡ printed a ++ printed b
unfolding printed
printed-append [] b = refl
printed-append (l ∷ a) b = ap (λ (x : List ℕ). shown (read_line l) ++ x) (printed-append a b) ∙ sym (append_assoc (shown (read_line l)) (printed a) (printed b))

pub printed-first : (s : List ℕ) → line_end s < length s → printed (whole_lines [] s) ≡ shown (judged (line_of s)) ++ printed (whole_lines [] (rest_of s))
unfolding printed
printed-first s h =
    ap printed (first-whole [] s h).whole
    ∙ ap (λ (r : Read). shown r ++ printed (whole_lines [] (rest_of s))) (sym (walks s).alone ∙ first-line s h)
