-- Sixteen words, each by its place: the session there, and zero past the last.
use Rattle.std.proofs.Common.{◌∙◌, cond, ltb, ◌*◌, ◌+◌, drop, drop-drop, rules}
use Rattle.loops.proofs.Laws.Chains.{from_fn-table}
use Rattle.lines.specs.Frame.{six}
use Rattle.lines.proofs.Laws.Frame.{table-padded}
use Rattle.reader.proofs.field.words_at.Goals as goal

pub returns : goal.returns
returns c =
    let a = c.args in
    from_fn-table _ (λ i. cond (ltb i a.n) (six (drop (a.at + i * 6) a.f.now)) 0) 0 16 c.from_fn.ensures.items (λ k r q e. search rules)
    ∙ simp drop-drop at (table-padded a.n (drop a.at a.f.now) c.requires.0)
