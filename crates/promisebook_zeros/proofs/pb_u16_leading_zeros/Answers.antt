use mathlib.Core.Path.{sym, ◌∙◌}
use Rattle.vstd_zeros.proofs.Zeros.{vstd_leading_zeros_is}
use Rattle.promisebook_zeros.proofs.pb_u16_leading_zeros.Goals as goal

pub returns : goal.returns
returns c = c.leading_zeros.ensures ∙ sym (vstd_leading_zeros_is 16 _ c.ranges.i.fits)
