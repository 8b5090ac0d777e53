use mathlib.Core.Path.{◌≡◌}
use lib.ListN.{take}
use Rattle.theory_lists.specs.Written.{written}
use Rattle.text_write.proofs.put.Given as goal

abbrev pub invariant-loop-k : goal.invariant-loop-k
invariant-loop-k g l = l.out ≡ written l.initial.out l.at (take l.k l.byte-items)
