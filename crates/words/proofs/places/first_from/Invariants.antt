use Rattle.theory_lists.specs.Search.{None, holds_at, is}
use Rattle.words.proofs.places.first_from.Given as goal

abbrev pub invariant-loop-i : goal.invariant-loop-i
invariant-loop-i l = None (holds_at (is l.v) l.s) l.from l.i
