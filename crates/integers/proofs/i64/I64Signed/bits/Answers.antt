use mir.Syntax.{w64}
use Rattle.theory_machine.proofs.Signs.{below_zero, not_below_zero, negative_bits, natural_bits}
use Rattle.integers.proofs.i64.I64Signed.bits.Goals as goal

pub returns-then-self-lt0 : goal.returns-then-self-lt0
returns-then-self-lt0 c = negative_bits w64 (below_zero w64 c.ranges.self c.if-self-lt0.true)

pub returns-else-self-lt0 : goal.returns-else-self-lt0
returns-else-self-lt0 c = natural_bits w64 (not_below_zero w64 c.ranges.self c.if-self-lt0.false)
