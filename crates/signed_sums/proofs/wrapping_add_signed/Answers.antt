use Rattle.theory_whole.proofs.Signed.{sum_with_signed}
use Rattle.signed_sums.proofs.wrapping_add_signed.Goals as goal

pub returns : goal.returns
returns g c = sum_with_signed g.T.Unsigned.Unsigned.bits _ _ c.bits.ensures c.wrapping_add.ensures
