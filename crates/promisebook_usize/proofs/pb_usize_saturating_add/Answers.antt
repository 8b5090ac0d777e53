use mathlib.Core.Path.{◌∙◌}
use Rattle.vstd_integers.proofs.Unsigned.{saturating_add_kept}
use Rattle.promisebook_usize.proofs.pb_usize_saturating_add.Goals as goal

pub returns : goal.returns
returns c = let f = c.ranges in c.saturating_add.ensures ∙ saturating_add_kept 64 f.x.fits f.y.fits
