use Prim.Native.Nat.{◌*◌, ◌≤◌}
use Rattle.every_bit.proofs.every_8.Given as goal

abbrev pub invariant-loop-x : goal.invariant-loop-x
invariant-loop-x g l = (l.wrong ≤ 4 * l.x) × (l.tried ≤ 4 * l.x)
