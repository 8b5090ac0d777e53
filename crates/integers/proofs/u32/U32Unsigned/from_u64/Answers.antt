use native.Mathlib.Omega.{arith}
use Rattle.integers.specs.Narrow.{fitting, too_large}
use Rattle.integers.proofs.u32.U32Unsigned.from_u64.Goals as goal

pub returns-then-n-lt4294967296 : goal.returns-then-n-lt4294967296
returns-then-n-lt4294967296 c = fitting 32 _ c.if-n-lt4294967296.true

pub returns-else-n-lt4294967296 : goal.returns-else-n-lt4294967296
returns-else-n-lt4294967296 c = too_large 32 _ (omega arith)
