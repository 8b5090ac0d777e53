use Prim.Native.Nat.{◌-◌, ◌≤◌}
use Rattle.text_quick.specs.Shift.{Moves}
use Rattle.text_quick.proofs.bytes.Given as goal

abbrev pub invariant-loop-i : goal.invariant-loop-i
invariant-loop-i l = ((l.from ≤ l.i) × (l.i ≤ l.to)) × Moves l.s l.from (l.i - l.from) l.x l.y

abbrev pub decreases-loop-i : goal.decreases-loop-i
decreases-loop-i l = l.to - l.i
