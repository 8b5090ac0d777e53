use Prim.Native.Nat.{◌-◌}
use lib.ListN.{length}
use Rattle.theory_text.specs.Reading.{ReadFrom}
use Rattle.text_valid.proofs.walk_from.Given as goal

abbrev pub invariant-loop-at : goal.invariant-loop-at
invariant-loop-at l = ReadFrom l.s l.at

abbrev pub decreases-loop-at : goal.decreases-loop-at
decreases-loop-at l = length l.s - l.at
