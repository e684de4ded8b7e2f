-- Each test is its part, the answer given among them, and the four are all of the rules.
use native.Mathlib.Omega.{arith}
use Rattle.state.proofs.Laws.Fewer.{fewer-tests}
use Rattle.state.proofs.rules.keeps_all.Goals as goal

pub returns : goal.returns
returns c =
    let n = c.before.before in
    let s = n.before.before in
    rw (n.number_of.ensures, n.from.ensures, c.primary_ok.ensures, s.requires.2, c.places_kept.ensures)
    (fewer-tests s.args.st.now s.args.sender (omega arith) (omega arith))
