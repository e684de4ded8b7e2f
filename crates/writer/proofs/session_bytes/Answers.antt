-- A session is the low six bytes of its word.
use Rattle.std.proofs.Common.{◌∙◌, ap, List, ℕ, get_or, ◌∷◌, []}
use Rattle.writer.proofs.Laws.{six-bytes}
use Rattle.writer.proofs.session_bytes.Goals as goal

pub returns : goal.returns
returns c =
    ap (λ (l : List ℕ). get_or l 2 0 ∷ get_or l 3 0 ∷ get_or l 4 0 ∷ get_or l 5 0 ∷ get_or l 6 0 ∷ get_or l 7 0 ∷ []) c.to_be_bytes.ensures
    ∙ six-bytes c.args.w
