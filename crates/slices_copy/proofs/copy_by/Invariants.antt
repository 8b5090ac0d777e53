use mathlib.Core.Path.{◌≡◌}
use Prim.Native.Nat.{◌-◌, ◌≤◌}
use lib.ListN.{length}
use Rattle.theory_lists.specs.Part.{part}
use Rattle.theory_lists.specs.Written.{written}
use Rattle.slices_copy.proofs.copy_by.Given as goal

abbrev pub invariant-loop-i : goal.invariant-loop-i
invariant-loop-i l = (l.i ≤ length l.s) × (length l.d ≡ length l.initial.d) × (l.d ≡ written l.initial.d l.at (part 0 l.i l.s))

abbrev pub decreases-loop-i : goal.decreases-loop-i
decreases-loop-i l = length l.s - l.i
