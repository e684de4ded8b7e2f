-- A whole record's session number is within the limits.
use native.Mathlib.Omega.{arith}
use Rattle.record.proofs.Laws.Whole.{whole_parts}
use Rattle.head.proofs.fits.fits.Goals as goal

pub stage_fits-requires : goal.stage_fits-requires
stage_fits-requires c = omega (arith, (whole_parts _ c.requires).top)
