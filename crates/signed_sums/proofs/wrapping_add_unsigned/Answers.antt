use lib.Pow.{pow_pos}
use lib.IntN.{◌+ℤ◌}
use Rattle.theory_whole.proofs.Alike.{alike_add}
use Rattle.theory_whole.proofs.Signed.{by_bits_unsigned}
use Rattle.signed_sums.proofs.wrapping_add_unsigned.Goals as goal

pub returns : goal.returns
returns g c = by_bits_unsigned g.T.Unsigned.Unsigned.bits (g.T.Unsigned.Unsigned.whole c.args.b) ◌+ℤ◌ (alike_add (pow_pos g.T.Unsigned.Unsigned.bits)) c.bits.ensures c.wrapping_add.ensures c.of_bits.ensures
