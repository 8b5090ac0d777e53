use mathlib.Core.Path.{◌∙◌}
use Rattle.vstd_integers.proofs.Unsigned.{wrapping_shr_kept}
use Rattle.promisebook_u16.proofs.pb_u16_wrapping_shr.Goals as goal

pub returns : goal.returns
returns c = c.wrapping_shr.ensures ∙ wrapping_shr_kept 16 c.ranges.x.fits c.args.rhs
