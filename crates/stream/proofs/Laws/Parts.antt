-- Whatever the parts, what is printed is what the whole input prints: of the line that a part begins 420 bytes are held, and every line of so many prints `R 3`.
use mathlib.Core.Path.{◌≡◌, refl, ap, ◌∙◌}
use mathlib.Core.List.{List, [], ◌∷◌, ◌++◌}
use Prim.Native.Nat.{ℕ}
use native.Mathlib.Omega.{arith}
use lib.ListN.{length, take, length-append}
use lib.Seq.{take_at}
use Rattle.lines.specs.Hex.{line_of}
use Rattle.lines.specs.Reading.{judged}
use Rattle.lines.specs.Walk.{last_line}
use Rattle.lines.proofs.Laws.Reading.{first-line, no_line-breaks}
use Rattle.lines.proofs.Laws.Alike.{end_after, Long}
use Rattle.lines.proofs.Laws.Parts as parts
use Rattle.shown.specs.Shown.{refused_text, shown, printed, frames}
use Rattle.stream.specs.Parts.{run, AnyParts}
use Rattle.stream.proofs.Laws.Shown.{broken-shown, long-refused, printed-append}

-- ---- a long line

long-line : (p : List ℕ) → Long 420 p → printed ((p ++ (10 ∷ [])) ∷ []) ≡ refused_text
unfolding printed refused_text line_of
long-line p h =
    let t = p ++ (10 ∷ []) in
    let k = end_after p h.1 in
    let n = length-append p (10 ∷ []) in
    ap (λ (x : List ℕ). x ++ [])
    (ap shown (first-line t (omega arith) ∙ ap judged (ap (λ (m : ℕ). take m t) k ∙ take_at p (10 ∷ []) (length p) refl)) ∙ long-refused p h.0)

long-last : (p : List ℕ) → Long 420 p → printed (last_line p) ≡ refused_text
unfolding printed last_line refused_text
long-last [] h = absurd (omega (arith, h.0))
long-last (b ∷ p) h = ap (λ (x : List ℕ). x ++ []) (ap shown (no_line-breaks (b ∷ p) h.1) ∙ broken-shown 1)

-- ---- the parts

in_parts : parts.InParts 420 printed ◌++◌ run
unfolding run
in_parts = record {
  append = printed-append;
  long = refused_text;
  long-line = long-line;
  long-last = long-last;
  ends = λ h. refl;
  goes = λ h c cs. refl;
}

pub any-parts : AnyParts
unfolding frames
any-parts = parts.any-parts in_parts
