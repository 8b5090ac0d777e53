use Rattle.theory_answers.specs.Says.{Says}
use Rattle.theory_lists.specs.Search.{Any, holds_at, is}
use Rattle.slices_whole.proofs.stands_in.Given as goal

abbrev pub invariant-loop-x : goal.invariant-loop-x
invariant-loop-x l = Says l.found (Any (holds_at (is l.v) l.s) 0 l.x-index)
