-- A step keeps what the lines left would make of the bench; at the end no line is left.
use Rattle.std.proofs.Common.{◌∙◌, refl, sym}
use Rattle.asking.specs.declared.World.{World}
use Rattle.worlds.specs.Desk.{SamePart}
use Rattle.worlds.proofs.Laws.Turn.{over}
use Rattle.table.proofs.Desk.steps.Goals as goal

part-more : (w z r : World) → SamePart w z → SamePart z r → SamePart w r
part-more w z r a b = record { stop = b.stop ∙ a.stop; end = b.end ∙ a.end; turns = b.turns ∙ a.turns }

pub loop-self-init : goal.loop-self-init
loop-self-init c = record { holds = c.requires; rest = refl; part = record { stop = refl; end = refl; turns = refl } }

pub loop-self-smaller : goal.loop-self-smaller
loop-self-smaller c = c.step.ensures.1.nearer

pub loop-self-preserved : goal.loop-self-preserved
loop-self-preserved c =
    let e = c.step.ensures in
    record { holds = e.0; rest = e.1.rest ∙ c.loop-self.invariant.rest; part = part-more _ _ _ c.loop-self.invariant.part e.1.part }

pub returns : goal.returns
returns c =
    let i = c.loop-self.invariant in
    (i.holds, record { bench = sym (over c.args.s.now c.loop-self.self.world _ i.holds.within c.loop-self-test.false) ∙ i.rest; done = c.loop-self-test.false; part = i.part })
