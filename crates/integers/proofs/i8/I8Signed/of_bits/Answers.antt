use mir.Syntax.{w8}
use Rattle.theory_machine.proofs.Bits.{bits_read, bits_of_bits}
use Rattle.integers.proofs.i8.I8Signed.of_bits.Goals as goal

pub returns-then-bits-lt128 : goal.returns-then-bits-lt128
returns-then-bits-lt128 c = bits_read w8 c.ranges.bits.fits

pub returns-else-bits-lt128 : goal.returns-else-bits-lt128
returns-else-bits-lt128 c = bits_of_bits w8 c.ranges.bits.fits
