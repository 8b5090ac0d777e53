use mathlib.Core.Path.{◌≡◌}
use Prim.Native.Nat.{◌≤◌}
use lib.ListN.{length}
use Rattle.theory_lists.proofs.Reverse.{reversed}
use Rattle.slices_reverse.proofs.turn_part.Given as goal

abbrev pub invariant-loop-j : goal.invariant-loop-j
invariant-loop-j l = (l.i ≤ l.j) × (l.j ≤ length l.initial.d) × (length l.d ≡ length l.initial.d) × (reversed l.i l.j l.d ≡ reversed l.from l.to l.initial.d)

abbrev pub decreases-loop-j : goal.decreases-loop-j
decreases-loop-j l = l.j

abbrev pub invariant-loop-j-2 : goal.invariant-loop-j-2
invariant-loop-j-2 l = (l.i ≤ l.j) × (l.j ≤ length l.initial.d) × (length l.d ≡ length l.initial.d) × (reversed l.i l.j l.d ≡ reversed l.initial.i l.initial.j l.initial.d)

abbrev pub decreases-loop-j-2 : goal.decreases-loop-j-2
decreases-loop-j-2 l = l.j
