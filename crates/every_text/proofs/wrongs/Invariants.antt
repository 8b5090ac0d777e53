use Prim.Native.Nat.{◌≤◌, ◌-◌}
use mathlib.Core.Path.{◌≡◌}
use lib.ListN.{length}
use Rattle.every_text.proofs.wrongs.Given as goal

abbrev pub invariant-loop-at : goal.invariant-loop-at
invariant-loop-at l = (l.count ≤ l.at) × ((l.at ≤ 200) × (length l.s ≡ length l.initial.s))

abbrev pub decreases-loop-at : goal.decreases-loop-at
decreases-loop-at l = 200 - l.at
