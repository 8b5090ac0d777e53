use lib.Pow.{pow_pos}
use lib.IntN.{◌*ℤ◌}
use Rattle.theory_whole.proofs.Alike.{alike_mul}
use Rattle.theory_whole.proofs.Signed.{by_bits}
use Rattle.signed_sums.proofs.wrapping_mul.Goals as goal

pub returns : goal.returns
returns g c = by_bits g.T.Unsigned.Unsigned.bits ◌*ℤ◌ (alike_mul (pow_pos g.T.Unsigned.Unsigned.bits)) c.bits.ensures c.bits-2.ensures c.wrapping_mul.ensures c.of_bits.ensures
