use mir.Syntax.{w32}
use Rattle.theory_machine.proofs.Bits.{bits_read, bits_of_bits}
use Rattle.integers.proofs.i32.I32Signed.of_bits.Goals as goal

pub returns-then-bits-lt2147483648 : goal.returns-then-bits-lt2147483648
returns-then-bits-lt2147483648 c = bits_read w32 c.ranges.bits.fits

pub returns-else-bits-lt2147483648 : goal.returns-else-bits-lt2147483648
returns-else-bits-lt2147483648 c = bits_of_bits w32 c.ranges.bits.fits
