use Rattle.theory_answers.specs.Says.{Says}
use Rattle.theory_lists.specs.Search.{All, holds_at, below}
use Rattle.text_ascii.proofs.all.Given as goal

abbrev pub invariant-loop-byte : goal.invariant-loop-byte
invariant-loop-byte l = Says l.all (All (holds_at (below 0x80) l.s) 0 l.byte-index)
