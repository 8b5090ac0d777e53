use native.Mathlib.Omega.{arith}
use Rattle.integers.specs.Narrow.{fitting, too_large}
use Rattle.integers.proofs.u8.U8Unsigned.from_u64.Goals as goal

pub returns-then-n-lt256 : goal.returns-then-n-lt256
returns-then-n-lt256 c = fitting 8 _ c.if-n-lt256.true

pub returns-else-n-lt256 : goal.returns-else-n-lt256
returns-else-n-lt256 c = too_large 8 _ (omega arith)
