use native.Mathlib.Omega.{arith}
use Rattle.integers.specs.Narrow.{fitting, too_large}
use Rattle.integers.proofs.u16.U16Unsigned.from_u64.Goals as goal

pub returns-then-n-lt65536 : goal.returns-then-n-lt65536
returns-then-n-lt65536 c = fitting 16 _ c.if-n-lt65536.true

pub returns-else-n-lt65536 : goal.returns-else-n-lt65536
returns-else-n-lt65536 c = too_large 16 _ (omega arith)
