use Prim.Native.Nat.{◌-◌, ◌≤◌}
use Rattle.every_slice.proofs.rule.occurs.Given as goal

abbrev pub invariant-loop-k : goal.invariant-loop-k
invariant-loop-k l = l.f ≤ l.k

abbrev pub decreases-loop-k : goal.decreases-loop-k
decreases-loop-k l = l.t - l.k
