-- What the program's loop keeps, from read to read.
use mathlib.Core.List.{List, []}
use mathlib.Core.Path.{◌≡◌, ap, ◌∙◌}
use Prim.Native.Nat.{ℕ, ◌-◌, ◌≤◌}
use native.Mathlib.Omega.{arith}
use lib.ListN.{length, take}
use Rattle.lines.specs.Walk.{begun}
use Rattle.asking.specs.declared.World.{World}
use Rattle.asking.specs.Asking.{left}
use Rattle.worlds.specs.Desk.{SamePart}
use Rattle.reading.specs.Reading.{Filled, Later}
use Rattle.reading.proofs.Laws.{Lines, filled-lines, Kept, later-kept}
use Rattle.table.specs.declared.Desk.{Desk}
use Rattle.table.specs.Held.{HoldsStarting}

-- the counts of the world between two reads
pub record Calm (z : World) : Type 0 where
  pub views-in : z.views ≤ 1000
  pub formed-in : z.formed ≤ 1001
  pub starting : z.starting ≤ 16
  pub stop : z.stop ≤ z.end
  pub end : z.end ≤ 8192

-- all that lies before `stop` is left after a read
left-all : (bs : List ℕ) (r : World) → r.at ≡ 0 → left bs r ≡ take r.stop bs
left-all bs r e = let f : r.stop - 0 ≡ r.stop = omega arith in rw (e, f)

pub holds-now : (bs bs' out : List ℕ) (z : World) (d : Desk) → Calm z → length bs' ≡ 8192 → length out ≡ 196608 → Filled bs bs' z d.world → HoldsStarting bs' out d
holds-now bs bs' out z d c l m f =
    let h : Lines bs' z d.world = filled-lines bs bs' z d.world f in
    record {
      views-in = omega (arith, c.views-in, h.views);
      formed-in = omega (arith, c.formed-in, h.formed);
      starting = omega (arith, c.starting, h.starting);
      within = omega (arith, h.stop, h.end, l);
      ends = ap (begun []) (left-all bs' d.world h.at) ∙ h.ends;
      room = omega (arith, h.put, h.at, h.stop, h.end, m);
    }

-- after the lines of a read are played and what they print is written
pub calm-after : (bs bs₀ bs₁ out : List ℕ) (z r : World) (d : Desk) (x : World) → Filled bs₀ bs₁ z r → SamePart r d.world → HoldsStarting bs out d → Later d.world x → Calm x
calm-after bs bs₀ bs₁ out z r d x f p q l =
    let h : Lines bs₁ z r = filled-lines bs₀ bs₁ z r f in
    let k : Kept d.world x = later-kept d.world x l in
    record {
      views-in = omega (arith, q.views-in, k.views);
      formed-in = omega (arith, q.formed-in, k.formed);
      starting = omega (arith, q.starting, k.starting);
      stop = omega (arith, k.stop, k.end, p.stop, p.end, h.stop);
      end = omega (arith, k.end, p.end, h.end);
    }
