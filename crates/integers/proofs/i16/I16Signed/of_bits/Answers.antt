use mir.Syntax.{w16}
use Rattle.theory_machine.proofs.Bits.{bits_read, bits_of_bits}
use Rattle.integers.proofs.i16.I16Signed.of_bits.Goals as goal

pub returns-then-bits-lt32768 : goal.returns-then-bits-lt32768
returns-then-bits-lt32768 c = bits_read w16 c.ranges.bits.fits

pub returns-else-bits-lt32768 : goal.returns-else-bits-lt32768
returns-else-bits-lt32768 c = bits_of_bits w16 c.ranges.bits.fits
