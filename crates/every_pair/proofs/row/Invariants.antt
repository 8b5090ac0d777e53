use Prim.Native.Nat.{◌*◌, ◌≤◌}
use Rattle.every_pair.proofs.row.Given as goal

abbrev pub invariant-loop-b : goal.invariant-loop-b
invariant-loop-b l = l.count ≤ 256 * l.b
