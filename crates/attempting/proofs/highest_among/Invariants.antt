-- Before turn q both are the highest of the heads before q, and no head from the end on is a member.
use Prim.Native.Nat.{max}
use mathlib.Core.Path.{◌≡◌}
use mathlib.Core.Bool.{cond}
use lib.Dec.{ltb}
use Rattle.loops.specs.Below.{fold_below}
use Rattle.group.specs.Words.{rank}
use Rattle.plan.specs.Attempt.{number_of, primary_of}
use Rattle.attempting.proofs.highest_among.Given as goal

abbrev pub invariant-loop-q : goal.invariant-loop-q
invariant-loop-q l = (l.top.number ≡ fold_below l.q (λ k x. max x (number_of l.m l.held l.rec k)) 0) × (l.top.primary ≡ fold_below l.q (λ k v. cond (ltb (rank v) (rank (primary_of l.m l.held l.rec k))) (primary_of l.m l.held l.rec k) v) 0)
