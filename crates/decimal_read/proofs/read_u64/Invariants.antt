use Rattle.theory_decimal.proofs.Reading.{SoFar}
use Rattle.decimal_read.proofs.read_u64.Given as goal

abbrev pub invariant-loop-c : goal.invariant-loop-c
invariant-loop-c l = SoFar 64 l.c-items 0 l.c-index l.n
