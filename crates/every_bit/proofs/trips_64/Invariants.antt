use Prim.Native.Nat.{◌*◌, ◌≤◌}
use Rattle.every_bit.proofs.trips_64.Given as goal

abbrev pub invariant-loop-k : goal.invariant-loop-k
invariant-loop-k g l = (l.wrong ≤ 6 * l.k) × (l.tried ≤ 6 * l.k)
