-- At each head what was printed, and what the rest prints, is what the slice prints; the rest gets shorter.
use mathlib.Core.Path.{◌∙◌}
use Rattle.std.proofs.Common.{rules}
use native.Mathlib.Omega.{arith}
use Rattle.stream.proofs.Laws.Walk.{split, split-length, turn-room, walked-again, walked_all}
use Rattle.stream.proofs.print_lines.Goals as goal

pub print_line-requires : goal.print_line-requires
print_line-requires c =
    let p = split c.in-Some.ensures in
    omega (arith, turn-room c.loop-line.invariant.0 p, c.loop-line.invariant.1)

pub loop-line-smaller : goal.loop-line-smaller
loop-line-smaller c = let p = split c.in-Some.ensures in omega (arith, p.ends, (split-length p).1)

pub loop-line-preserved : goal.loop-line-preserved
loop-line-preserved c =
    let p = c.print_line.ensures in
    let v = c.loop-line.invariant in
    (walked-again v.0 (split c.in-Some.ensures) p.most p.then, p.size ∙ v.1, p.buffer ∙ v.2)

pub returns-clause-out_after : goal.returns-clause-out_after
returns-clause-out_after c = let d = (walked_all c.loop-line.invariant.0 c.in_default.ensures).0 in search (rules, d)

pub returns-clause-s_value : goal.returns-clause-s_value
returns-clause-s_value c = (walked_all c.loop-line.invariant.0 c.in_default.ensures).1
