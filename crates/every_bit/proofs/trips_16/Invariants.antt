use Prim.Native.Nat.{◌*◌, ◌≤◌}
use Rattle.every_bit.proofs.trips_16.Given as goal

abbrev pub invariant-loop-x : goal.invariant-loop-x
invariant-loop-x g l = (l.wrong ≤ 2 * l.x) × (l.tried ≤ 2 * l.x)
