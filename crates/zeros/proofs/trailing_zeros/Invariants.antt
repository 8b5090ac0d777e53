use Rattle.theory_digits.proofs.Counting.{TrailingCount}
use Rattle.zeros.proofs.trailing_zeros.Given as goal

abbrev pub invariant-loop-lower : goal.invariant-loop-lower
invariant-loop-lower g l = TrailingCount g.T.Unsigned.bits (g.T.Unsigned.whole l.fn.x) l.trailing (g.T.Unsigned.whole l.lower)

abbrev pub decreases-loop-lower : goal.decreases-loop-lower
decreases-loop-lower g l = l.trailing
