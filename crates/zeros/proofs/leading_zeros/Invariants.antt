use Rattle.theory_digits.proofs.Counting.{LeadingCount}
use Rattle.zeros.proofs.leading_zeros.Given as goal

abbrev pub invariant-loop-upper : goal.invariant-loop-upper
invariant-loop-upper g l = LeadingCount g.T.Unsigned.bits (g.T.Unsigned.whole l.fn.x) l.leading (g.T.Unsigned.whole l.upper)

abbrev pub decreases-loop-upper : goal.decreases-loop-upper
decreases-loop-upper g l = l.leading
