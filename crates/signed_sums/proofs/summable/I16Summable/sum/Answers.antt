use mir.Syntax.{w16}
use mir.Val.{bits}
use Prim.Native.Nat.{◌<◌}
use native.Mathlib.Omega.{arith}
use Rattle.theory_answers.proofs.Answer.{some_answer, no_answer}
use Rattle.theory_machine.proofs.Narrow.{widened, sum_narrowed, narrows, narrows_not, narrowed_is}
use Rattle.signed_sums.proofs.summable.I16Summable.sum.Goals as goal

narrow : bits w16 < 62
narrow = omega arith

pub overflow_cast-sum : goal.overflow_cast-sum
overflow_cast-sum c = widened w16 narrow c.ranges.self

pub overflow_cast-sum-2 : goal.overflow_cast-sum-2
overflow_cast-sum-2 c = widened w16 narrow c.ranges.other

pub overflow_add-sum : goal.overflow_add-sum
overflow_add-sum c = (sum_narrowed w16 narrow c.ranges.self c.ranges.other).fits

pub overflow_add-sum-2 : goal.overflow_add-sum-2
overflow_add-sum-2 c = (sum_narrowed w16 narrow c.ranges.self c.ranges.other).raised

pub overflow_cast-result : goal.overflow_cast-result
overflow_cast-result c =
    narrows w16 narrow (sum_narrowed w16 narrow c.ranges.self c.ranges.other) _ c.bits.ensures c.if-bits-ge65536.false

pub returns-then-bits-ge65536 : goal.returns-then-bits-ge65536
returns-then-bits-ge65536 c =
    no_answer _ _ (narrows_not w16 narrow (sum_narrowed w16 narrow c.ranges.self c.ranges.other) _ c.bits.ensures c.if-bits-ge65536.true)

pub returns-else-bits-ge65536 : goal.returns-else-bits-ge65536
returns-else-bits-ge65536 c =
    some_answer _ _ (narrowed_is w16 narrow (sum_narrowed w16 narrow c.ranges.self c.ranges.other) _ c.bits.ensures c.if-bits-ge65536.false)
