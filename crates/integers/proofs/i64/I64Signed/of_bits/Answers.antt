use mir.Syntax.{w64}
use Rattle.theory_machine.proofs.Bits.{bits_read, bits_of_bits}
use Rattle.integers.proofs.i64.I64Signed.of_bits.Goals as goal

pub returns-then-bits-lt9223372036854775808 : goal.returns-then-bits-lt9223372036854775808
returns-then-bits-lt9223372036854775808 c = bits_read w64 c.ranges.bits.fits

pub returns-else-bits-lt9223372036854775808 : goal.returns-else-bits-lt9223372036854775808
returns-else-bits-lt9223372036854775808 c = bits_of_bits w64 c.ranges.bits.fits
