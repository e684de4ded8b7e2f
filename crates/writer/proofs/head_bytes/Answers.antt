-- The view's four bytes stand between kind and sender.
use Rattle.std.proofs.Common.{◌∙◌, ap, List, ℕ, get_or, ◌∷◌, [], ◌++◌}
use Rattle.lines.specs.Writing.{head_bytes}
use Rattle.writer.proofs.Laws.{four-bytes}
use Rattle.writer.proofs.head_bytes.Goals as goal

pub returns : goal.returns
unfolding head_bytes
returns c =
    let a = c.args in
    ap (λ (l : List ℕ). a.kind ∷ get_or l 0 0 ∷ get_or l 1 0 ∷ get_or l 2 0 ∷ get_or l 3 0 ∷ a.sender ∷ []) c.to_be_bytes.ensures
    ∙ ap (λ (l : List ℕ). (a.kind ∷ []) ++ (l ++ (a.sender ∷ []))) (four-bytes a.view)
