-- A free place has nothing to mark; of a used one the word is stored if it changes.
use mathlib.Core.Path.{◌≡◌, refl, ◌∙◌}
use mathlib.Core.Bool.{cond, not, ◌&&◌}
use mathlib.Core.List.{List}
use Prim.Native.Nat.{ℕ}
use lib.Dec.{eqb, ltb}
use lib.ListN.{length, get_or}
use Rattle.std.specs.List.{fold, enumerate_from}
use Rattle.loops.proofs.Laws.Chains.{fold-enumerate}
use Rattle.group.specs.Heads.{has, either, only}
use Rattle.group.specs.Words.{rank}
use Rattle.plan.specs.Marks.{adding}
use Rattle.plan.proofs.Laws.Marks.{mark-skip, mark-told}
use Rattle.learning.proofs.marks.mark_place.Goals as goal

-- the fold over the offers with their heads is the recursion over the heads
adding-chain : (m own w marks : ℕ) (offers : List ℕ) → length offers ≡ 16
    → fold (λ all p. cond (has w p.0 && (has m p.0 && not (eqb p.0 own)) && ltb (rank p.1) (rank w)) (either all (only p.0)) all) marks (enumerate_from 0 offers)
    ≡ adding (λ q. has w q && (has m q && not (eqb q own)) && ltb (rank (get_or offers q 0)) (rank w)) marks
unfolding adding
adding-chain m own w marks offers h = fold-enumerate _ _ marks offers 0 16 h (λ i s k. refl)

pub returns-else-w-ne0-clause-stores : goal.returns-else-w-ne0-clause-stores
returns-else-w-ne0-clause-stores c = λ held told. mark-skip _ held _ _ _ c.place_at-w.ensures c.if-w-ne0.false

pub returns-then-w-ne0-clause-stores : goal.returns-then-w-ne0-clause-stores
returns-then-w-ne0-clause-stores c = λ held told.
    c.change.ensures.stores
    ∙ mark-told _ held _ _ told _ _ _ _ _ _ c.own.ensures.0 c.place_at-w.ensures c.marks_at.ensures
    (c.marked_in-marks.ensures ∙ adding-chain _ _ _ _ _ c.told-offers)
