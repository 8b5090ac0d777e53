use mathlib.Core.Path.{sym, ◌∙◌}
use Rattle.vstd_zeros.proofs.Zeros.{vstd_leading_ones_is}
use Rattle.promisebook_zeros.proofs.pb_u64_leading_ones.Goals as goal

pub returns : goal.returns
returns c = c.leading_ones.ensures ∙ sym (vstd_leading_ones_is 64 _ c.ranges.i.fits)
