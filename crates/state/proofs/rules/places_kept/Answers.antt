-- Without places both tests pass; else the word read is the last place.
use Rattle.std.proofs.Common.{◌≡◌, sym, ◌∙◌, take, length, length-take-le, arith}
use Rattle.state.proofs.Laws.Fewer.{no-places, prior-last}
use Rattle.state.proofs.rules.places_kept.Goals as goal

pub returns-in-None : goal.returns-in-None
returns-in-None c =
    let st = c.args.st.now in
    let n : length (take st.count st.places) ≡ st.count = length-take-le st.count st.places (omega arith) in
    sym (no-places st c.args.sender (omega (arith, c.in-None.ensures.item.3)))

pub returns-in-Some : goal.returns-in-Some
returns-in-Some c =
    let st = c.args.st.now in
    let i = c.in-Some.ensures.item.3 in
    rw (c.number_of.ensures, c.from.ensures, c.rule6.ensures, i.1 0 ∙ prior-last st.places st.count (omega arith) i.0)
