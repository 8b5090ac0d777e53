use mathlib.Core.Path.{◌∙◌}
use Rattle.vstd_integers.proofs.Unsigned.{saturating_sub_kept}
use Rattle.promisebook_u16.proofs.pb_u16_saturating_sub.Goals as goal

pub returns : goal.returns
returns c = let f = c.ranges in c.saturating_sub.ensures ∙ saturating_sub_kept 16 f.x.fits f.y.fits
