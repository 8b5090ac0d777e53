use Prim.Native.Nat.{◌≤◌, ◌-◌}
use Rattle.every_text.proofs.lengths.Given as goal

abbrev pub invariant-loop-n : goal.invariant-loop-n
invariant-loop-n l = (l.count ≤ l.n) × (l.n ≤ 200)

abbrev pub decreases-loop-n : goal.decreases-loop-n
decreases-loop-n l = 200 - l.n
