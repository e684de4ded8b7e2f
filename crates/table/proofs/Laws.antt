-- The heads that are left to start, started: what else the desk holds is as it was.
use mathlib.Core.List.{List}
use Prim.Native.Nat.{ℕ}
use Rattle.table.specs.declared.Desk.{Desk}
use Rattle.table.specs.Held.{Holds, HoldsStarting, settled}

pub settled-holds : (s out : List ℕ) (d : Desk) → HoldsStarting s out d → Holds s out (settled d)
settled-holds s out d h = record { views-in = h.views-in; formed-in = h.formed-in; within = h.within; ends = h.ends; room = h.room }
