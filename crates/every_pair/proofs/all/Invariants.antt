use Prim.Native.Nat.{◌*◌, ◌≤◌}
use Rattle.every_pair.proofs.all.Given as goal

abbrev pub invariant-loop-a : goal.invariant-loop-a
invariant-loop-a l = l.count ≤ 65536 * l.a
