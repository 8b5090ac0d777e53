use mathlib.Core.Path.{sym, ◌∙◌}
use Rattle.vstd_zeros.proofs.Zeros.{vstd_trailing_zeros_is}
use Rattle.promisebook_zeros.proofs.pb_u16_trailing_zeros.Goals as goal

pub returns : goal.returns
returns c = c.trailing_zeros.ensures ∙ sym (vstd_trailing_zeros_is 16 _ c.ranges.i.fits)
