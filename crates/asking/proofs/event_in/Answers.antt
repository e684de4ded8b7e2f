-- The first line's characters, if it ends.
use mathlib.Core.Path.{◌∙◌, sym, ap}
use Prim.Native.Nat.{ℕ}
use lib.ListN.{take}
use lib.Seq.{length-take-le}
use Rattle.events.specs.Events.{event_of}
use native.Mathlib.Omega.{arith}
use Rattle.asking.proofs.Laws.{event-first, no-event-first}
use Rattle.asking.proofs.event_in.Goals as goal

pub slice_bounds-read_event-end : goal.slice_bounds-read_event-end
slice_bounds-read_event-end c = sym (length-take-le _ _ (omega arith))

pub returns-then-e-s : goal.returns-then-e-s
returns-then-e-s c =
    let s = c.args.s.now in
    c.read_event.ensures ∙ ap (λ (k : ℕ). event_of (take k s)) c.line_end-e.ensures ∙ sym (event-first s (omega arith))

pub returns-else-e-s : goal.returns-else-e-s
returns-else-e-s c = sym (no-event-first c.args.s.now (omega arith))
