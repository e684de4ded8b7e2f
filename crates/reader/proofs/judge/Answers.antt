-- What is asked of the frame is known of its characters; one character or none spells no kind.
use Rattle.lines.proofs.Laws.Reading.{line-digits, line-long, line_other}
use Rattle.lines.specs.Hex.{unhex}
use Rattle.lines.specs.Reading.{rule1, kind_of}
use lib.ListN.{length}
use mathlib.Core.List.{List, [], ◌∷◌}
use mathlib.Core.Path.{◌≡◌, refl, sym}
use native.Mathlib.Omega.{arith}
use Prim.Native.Nat.{ℕ, ◌<◌}
use Rattle.reader.proofs.judge.Goals as goal

short-kind : (l : List ℕ) → length l < 2 → kind_of (unhex l) ≡ 0
unfolding kind_of unhex
short-kind [] h = refl
short-kind (a ∷ []) h = refl
short-kind (a ∷ b ∷ l) h = absurd (omega arith)

pub returns-then-not-digits : goal.returns-then-not-digits
unfolding rule1
returns-then-not-digits c = sym (line-digits _ (sym c.if-not-digits.ensures))

pub returns-then-l-lt2 : goal.returns-then-l-lt2
unfolding rule1
returns-then-l-lt2 c =
    let k = short-kind c.args.l.now c.if-l-lt2.true in
    sym (line_other _ (sym c.if-not-digits.ensures) (λ e. omega (arith, k, e)) (λ e. omega (arith, k, e)))

pub returns-then-l-gt-MOST : goal.returns-then-l-gt-MOST
unfolding rule1
returns-then-l-gt-MOST c = sym (line-long _ (sym c.if-not-digits.ensures) c.if-l-gt-MOST.true)

pub judge_frame-requires : goal.judge_frame-requires
unfolding rule1
judge_frame-requires c = (sym c.if-not-digits.ensures, c.put_frame.ensures)
