-- What the bench holds, as the definitions have it.
use Rattle.std.specs.Prelude.{List, [], ◌≡◌, ℕ, ◌+◌, ◌-◌, ◌*◌, ◌≤◌, length}
use Rattle.lines.specs.Walk.{begun}
use Rattle.asking.specs.Asking.{left}
use Rattle.worlds.specs.Bench.{Bench, start_last}
use Rattle.worlds.specs.Desk.{bench_of, bench_as_started, none_left}
use Rattle.table.specs.declared.Desk.{Desk}

-- the bench that a desk stands for, with the table as it is
abbrev pub stands_for : List ℕ → Desk → Bench
stands_for out d = bench_of d.table d.views d.formed out d.world

-- the same with the heads that are left to start counted as started
abbrev pub stands_as_started : List ℕ → Desk → Bench
stands_as_started out d = bench_as_started d.table d.views d.formed out d.world

-- the heads that are left to start, started
abbrev pub settled : Desk → Desk
settled d = record {
  table = start_last d.world.core d.world.least d.world.starting d.table;
  views = d.views;
  formed = d.formed;
  world = none_left d.world;
}

-- what turns keep to besides the lengths of the lists: the counts are within them, and the lines of the part s that are left all end and have room in the output for what they print
pub record Holds (s out : List ℕ) (d : Desk) : Type 0 where
  pub views-in : d.world.views ≤ 1000
  pub formed-in : d.world.formed ≤ 1001
  pub within : d.world.stop ≤ length s
  pub ends : begun [] (left s d.world) ≡ []
  pub room : d.world.put + 24 * (d.world.stop - d.world.at) ≤ length out

-- what steps keep to: the same, with at most sixteen heads left to start; with the lengths of the lists it is `Ready`
pub record HoldsStarting (s out : List ℕ) (d : Desk) : Type 0 where
  pub views-in : d.world.views ≤ 1000
  pub formed-in : d.world.formed ≤ 1001
  pub starting : d.world.starting ≤ 16
  pub within : d.world.stop ≤ length s
  pub ends : begun [] (left s d.world) ≡ []
  pub room : d.world.put + 24 * (d.world.stop - d.world.at) ≤ length out
