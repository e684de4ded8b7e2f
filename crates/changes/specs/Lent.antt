-- A lent record with its pen, as the desk of the definitions.
use Rattle.std.specs.Prelude.{◌≡◌}
use Rattle.store.specs.Desk as plain
use Rattle.changes.specs.declared.Desk.{Desk}

abbrev pub on : Desk → plain.Desk
on d = plain.desk d.rec.now d.pen

-- e is d after stores: the record lent is the same one, with what they leave
pub record Leaves (left : plain.Desk) (d e : Desk) : Type 0 where
  pub lent : e.rec.ghost_name ≡ d.rec.ghost_name
  pub stores : on e ≡ left
