use mathlib.Core.Path.{◌∙◌}
use Rattle.vstd_integers.proofs.Unsigned.{wrapping_add_kept}
use Rattle.promisebook_u8.proofs.pb_u8_wrapping_add.Goals as goal

pub returns : goal.returns
returns c = let f = c.ranges in c.wrapping_add.ensures ∙ wrapping_add_kept 8 f.x.fits f.y.fits
