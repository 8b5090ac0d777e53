use mathlib.Core.Path.{ap, ◌∙◌}
use lib.IntN.{pos}
use Rattle.theory_whole.proofs.Unsigned.{wraps_remainder}
use Rattle.unsigned_sums.proofs.wrapping_mul.Goals as goal

pub returns : goal.returns
returns g c = ap pos c.times.ensures ∙ wraps_remainder g.T.Unsigned.bits _
