use mathlib.Core.Path.{sym, ◌∙◌}
use Rattle.vstd_zeros.proofs.Zeros.{vstd_trailing_ones_is}
use Rattle.promisebook_zeros.proofs.pb_u64_trailing_ones.Goals as goal

pub returns : goal.returns
returns c = c.trailing_ones.ensures ∙ sym (vstd_trailing_ones_is 64 _ c.ranges.i.fits)
