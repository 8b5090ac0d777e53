use Prim.Native.Nat.{◌≤◌}
use Rattle.every_bit.proofs.rule.Given as goal

abbrev pub invariant-loop-power : goal.invariant-loop-power
invariant-loop-power l = l.power ≤ l.size

abbrev pub decreases-loop-power : goal.decreases-loop-power
decreases-loop-power l = l.power
