-- Before turn i the answer is the test of all places below i, and the place before is the last of them.
use Rattle.std.proofs.Common.{◌≡◌, get_or}
use Rattle.loops.specs.Below.{all_below}
use Rattle.state.specs.Rules.{place_ok, prior}
use Rattle.state.proofs.rules.all_place_ok.Given as goal

abbrev pub invariant-loop-w : goal.invariant-loop-w
invariant-loop-w l =
    (l.ok ≡ all_below l.w-index (λ i. place_ok l.own l.p (prior l.places i) (get_or l.places i 0)))
    × (l.before ≡ prior l.places l.w-index)
