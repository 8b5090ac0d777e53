use mathlib.Core.Path.{◌∙◌}
use Rattle.vstd_integers.proofs.Unsigned.{wrapping_shr_kept}
use Rattle.promisebook_u64.proofs.pb_u64_wrapping_shr.Goals as goal

pub returns : goal.returns
returns c = c.wrapping_shr.ensures ∙ wrapping_shr_kept 64 c.ranges.x.fits c.args.rhs
