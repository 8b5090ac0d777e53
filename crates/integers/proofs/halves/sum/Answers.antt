use native.Mathlib.Omega.{arith}
use Rattle.theory_whole.proofs.Unsigned.{wraps_same, wraps_over}
use Rattle.integers.proofs.halves.sum.Goals as goal

pub returns-then-b-a : goal.returns-then-b-a
returns-then-b-a c = wraps_same 64 _ _ (omega arith) (omega arith)

pub returns-else-b-a : goal.returns-else-b-a
returns-else-b-a c = wraps_over 64 _ _ (omega arith) (omega arith)
