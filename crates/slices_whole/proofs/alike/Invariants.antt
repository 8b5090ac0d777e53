use Rattle.std.proofs.Common.{length}
use Rattle.theory_answers.specs.Says.{Says}
use Rattle.theory_lists.specs.Search.{All, alike_at}
use Rattle.slices_whole.proofs.alike.Given as goal

abbrev pub invariant-loop-x : goal.invariant-loop-x
invariant-loop-x l = Says l.same (All (alike_at l.a l.b) 0 (length l.yielded))
