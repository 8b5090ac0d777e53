use Rattle.text_read.proofs.Backwards.{Going}
use Rattle.text_read.proofs.back.Given as goal

abbrev pub invariant-loop-k : goal.invariant-loop-k
invariant-loop-k l = Going l.s l.k
