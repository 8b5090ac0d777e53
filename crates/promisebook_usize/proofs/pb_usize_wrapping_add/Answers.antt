use mathlib.Core.Path.{◌∙◌}
use Rattle.vstd_integers.proofs.Unsigned.{wrapping_add_kept}
use Rattle.promisebook_usize.proofs.pb_usize_wrapping_add.Goals as goal

pub returns : goal.returns
returns c = let f = c.ranges in c.wrapping_add.ensures ∙ wrapping_add_kept 64 f.x.fits f.y.fits
