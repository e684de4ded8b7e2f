-- Before each turn the sessions before it are spelled: those of whole blocks, and then the others.
use mathlib.Core.Path.{◌≡◌}
use Prim.Native.Nat.{◌+◌, ◌*◌}
use lib.ListN.{take}
use Rattle.lines.specs.Writing.{flat, spell}
use Rattle.writer.proofs.put_words.Given as goal

abbrev pub invariant-loop-i : goal.invariant-loop-i
invariant-loop-i l = l.out ≡ spell l.fn.out l.at (flat (take (l.i * 8) l.words))

abbrev pub invariant-loop-i-2 : goal.invariant-loop-i-2
invariant-loop-i-2 l = l.out ≡ spell l.fn.out l.at (flat (take (l.from + l.i) l.words))
