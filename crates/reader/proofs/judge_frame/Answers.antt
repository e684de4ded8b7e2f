-- The kind decides which case of the definition is left.
use Rattle.std.proofs.Common.{◌≡◌, sym, refl, ap, ◌∙◌, List, [], ◌∷◌, ℕ, ◌≤◌, length, get_or, arith}
use Rattle.lines.specs.Hex.{unhex}
use Rattle.lines.specs.Reading.{kind_of}
use Rattle.lines.proofs.Laws.Reading.{line_other}
use Rattle.reader.proofs.judge_frame.Goals as goal

kind : (l f : List ℕ) → f ≡ unhex l → get_or f 0 0 ≡ kind_of (unhex l)
unfolding kind_of
kind l f e = ap (λ (f : List ℕ). get_or f 0 0) e

none : (f : List ℕ) → length f ≤ 0 → get_or f 0 0 ≡ 0
none [] h = refl
none (b ∷ f) h = absurd (omega arith)

pub returns-in_default : goal.returns-in_default
returns-in_default c =
    let z = none c.args.f.now c.in_default.ensures.item.3 in
    let k = kind _ _ c.requires.1 in
    sym (line_other _ c.requires.0 (λ e. omega (arith, k, z, e)) (λ e. omega (arith, k, z, e)))

pub judge_state-requires : goal.judge_state-requires
judge_state-requires c = (c.requires.0, sym (kind _ _ c.requires.1) ∙ sym (c.in-Some.ensures.item.3.1 0) ∙ c.in-1.is, c.requires.1)

pub judge_attempt-requires : goal.judge_attempt-requires
judge_attempt-requires c = (c.requires.0, sym (kind _ _ c.requires.1) ∙ sym (c.in-Some.ensures.item.3.1 0) ∙ c.in-2.is, c.requires.1)

pub returns-in_default-kind : goal.returns-in_default-kind
returns-in_default-kind c =
    let k = kind _ _ c.requires.1 in
    let i = c.in-Some.ensures.item.3.1 0 in
    sym (line_other _ c.requires.0 (λ e. omega (arith, k, i, e)) (λ e. omega (arith, k, i, e)))
