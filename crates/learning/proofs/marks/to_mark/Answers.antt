-- The test is its definition, term by term.
use Rattle.learning.proofs.marks.to_mark.Goals as goal

pub returns : goal.returns
returns c =
    rw (c.rank_of-2.ensures, c.rank_of.ensures, c.is_other.ensures, c.has_head.ensures)
