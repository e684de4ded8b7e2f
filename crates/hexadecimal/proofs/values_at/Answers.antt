-- An array of the value at each index is the table of them.
use Rattle.std.proofs.Common.{rules, ◌+◌, ◌∙◌, ap, get_or, List, ℕ}
use Rattle.loops.proofs.Laws.Chains.{from_fn-table}
use Rattle.loops.proofs.Laws.Lists.{get_d-table}
use Rattle.lines.specs.Hex.{nib}
use Rattle.hexadecimal.proofs.values_at.Goals as goal

pub returns : goal.returns
returns c k h =
    let a = c.args in
    let f : ℕ → ℕ = λ j. nib (get_or a.s.now (a.at + j) 0) in
    ap (λ (l : List ℕ). get_or l k 0) (from_fn-table _ f 0 32 c.from_fn.ensures.items (λ j r q e. search rules)) ∙ get_d-table 32 f k 0 h
