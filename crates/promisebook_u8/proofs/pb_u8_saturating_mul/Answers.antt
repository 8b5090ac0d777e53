use mathlib.Core.Path.{◌∙◌}
use Rattle.vstd_integers.proofs.Unsigned.{saturating_mul_kept}
use Rattle.promisebook_u8.proofs.pb_u8_saturating_mul.Goals as goal

pub returns : goal.returns
returns c = let f = c.ranges in c.saturating_mul.ensures ∙ saturating_mul_kept 8 f.x.fits f.y.fits
