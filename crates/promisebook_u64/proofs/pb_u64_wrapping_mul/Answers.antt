use mathlib.Core.Path.{◌∙◌}
use Rattle.vstd_integers.proofs.Unsigned.{wrapping_mul_kept}
use Rattle.promisebook_u64.proofs.pb_u64_wrapping_mul.Goals as goal

pub returns : goal.returns
returns c = let f = c.ranges in c.wrapping_mul.ensures ∙ wrapping_mul_kept 64 f.x.fits f.y.fits
