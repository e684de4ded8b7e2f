-- How the code holds the bench: lent lists with more room than is used, and a world of counts.
use Rattle.std.specs.Prelude.{cond, List, [], ◌≡◌, ℕ, ◌+◌, ◌-◌, ◌*◌, ◌≤◌, ◌<◌, ltb, length, take}
use Rattle.lines.specs.Walk.{begun, whole_lines}
use Rattle.asking.specs.declared.World.{World}
use Rattle.asking.specs.Asking.{left, line_now}
use Rattle.seat.specs.declared.Seat.{Seat}
use Rattle.worlds.specs.Bench.{Bench, start_last, taken, played}

-- the bench that the lists and the world stand for
abbrev pub bench_of : List Seat → List ℕ → List ℕ → List ℕ → World → Bench
bench_of t views formed out w = record {
  grouped = w.grouped;
  table = t;
  views = take w.views views;
  formed = take w.formed formed;
  text = take w.put out;
}

-- the same with the heads that a group line has yet to start counted as started: the code starts one of them a step
abbrev pub bench_as_started : List Seat → List ℕ → List ℕ → List ℕ → World → Bench
bench_as_started t views formed out w = bench_of (start_last w.core w.least w.starting t) views formed out w

-- the world with no head left to start
abbrev pub none_left : World → World
none_left w = record {
  at = w.at;
  stop = w.stop;
  put = w.put;
  views = w.views;
  formed = w.formed;
  starting = 0;
  grouped = w.grouped;
  core = w.core;
  least = w.least;
  end = w.end;
  turns = w.turns;
}

-- ---- steps and turns

-- what the code keeps to: 16 heads, room for 1,000 views and for 1,001 formed sessions, and for 24 characters of every line that is left
pub record Ready (t : List Seat) (views formed s out : List ℕ) (w : World) : Type 0 where
  pub heads : length t ≡ 16
  pub views-room : length views ≡ 1000
  pub views-in : w.views ≤ 1000
  pub formed-room : length formed ≡ 1001
  pub formed-in : w.formed ≤ 1001
  pub starting : w.starting ≤ 16
  pub within : w.stop ≤ length s
  pub ends : begun [] (left s w) ≡ []
  pub room : w.put + 24 * (w.stop - w.at) ≤ length out

-- one step: a head started changes nothing of the bench that the lists stand for, since it counts as started; otherwise a line is taken
abbrev pub turn_of : List ℕ → World → Bench → Bench
turn_of s w b = cond (ltb 0 w.starting) b (taken (line_now s w) b)

-- how far a world is from its end, for the loop over steps
abbrev pub to_go : World → ℕ
to_go w = 17 * (w.stop - w.at) + w.starting

-- what stays over the lines of a part
pub record SamePart (w r : World) : Type 0 where
  pub stop : r.stop ≡ w.stop
  pub end : r.end ≡ w.end
  pub turns : r.turns ≡ w.turns

-- a step from the bench b and the world w to the bench b' and the world r
pub record Stepped (s : List ℕ) (w : World) (b b' : Bench) (r : World) : Type 0 where
  pub bench : b' ≡ turn_of s w b
  pub rest : played (whole_lines [] (left s r)) b' ≡ played (whole_lines [] (left s w)) b
  pub nearer : to_go r < to_go w
  pub part : SamePart w r

-- a turn from the bench b and the world w to the bench b' and the world r: a line with all that it does
pub record Turned (s : List ℕ) (w : World) (b b' : Bench) (r : World) : Type 0 where
  pub bench : b' ≡ taken (line_now s w) b
  pub rest : played (whole_lines [] (left s r)) b' ≡ played (whole_lines [] (left s w)) b
  pub nearer : r.stop - r.at < w.stop - w.at
  pub part : SamePart w r

-- all lines of a part: what is left after it is nothing
pub record Fed (s : List ℕ) (w : World) (b b' : Bench) (r : World) : Type 0 where
  pub bench : b' ≡ played (whole_lines [] (left s w)) b
  pub done : r.stop ≤ r.at
  pub part : SamePart w r
