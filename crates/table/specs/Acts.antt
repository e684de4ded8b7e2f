-- One head of the table acts. "The sixteen heads stand in one lent table" (document 02).
use Rattle.std.specs.Prelude.{◌≡◌, List, set}
use Rattle.seat.specs.declared.Seat.{Seat}
use Rattle.deeds.specs.declared.Deed.{Deed}
use Rattle.seat.specs.Played.{Played, played_by}
use Rattle.deeds.specs.Told.{told}
use Rattle.asking.specs.declared.Order.{Order}
use Rattle.worlds.specs.Bench.{seat_at}

abbrev pub played_as : List Seat → Order → Played
played_as t o = played_by o.to (seat_at t o.to) (seat_at t o.from) o.what

-- the table after it, and the deed
pub record Acted (t t' : List Seat) (o : Order) (d : Deed) : Type 0 where
  pub table : t' ≡ set t o.to (played_as t o).seat
  pub reply : told d.reply ≡ (played_as t o).reply
  pub session : d.formed ≡ (played_as t o).formed
