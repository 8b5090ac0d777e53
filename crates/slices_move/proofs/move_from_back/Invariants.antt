use mathlib.Core.Path.{◌≡◌}
use Prim.Native.Nat.{◌+◌, ◌-◌, ◌≤◌}
use lib.ListN.{length}
use Rattle.theory_lists.specs.Part.{part}
use Rattle.theory_lists.specs.Written.{written}
use Rattle.slices_move.proofs.move_from_back.Given as goal

abbrev pub invariant-loop-i : goal.invariant-loop-i
invariant-loop-i l =
    (l.from ≤ l.i) × (l.i ≤ l.to) × (l.k ≡ l.at + (l.i - l.from)) × (length l.d ≡ length l.initial.d) × (l.d ≡ written l.initial.d l.k (part l.i l.to l.initial.d))

abbrev pub decreases-loop-i : goal.decreases-loop-i
decreases-loop-i l = l.i
