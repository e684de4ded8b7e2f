-- A whole record's session number is within the limits.
use native.Mathlib.Omega.{arith}
use Rattle.record.proofs.Laws.Whole.{whole_parts}
use Rattle.head.proofs.Laws.Fits.{usable-whole}
use Rattle.head.proofs.session.Session.form.Goals as goal

pub form_stores-pen-requires : goal.form_stores-pen-requires
form_stores-pen-requires c = grind (arith, usable-whole, whole_parts)
