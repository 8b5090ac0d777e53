use Prim.Native.Nat.{◌*◌, ◌≤◌}
use Rattle.every_bit.proofs.writes.Given as goal

abbrev pub invariant-loop-at : goal.invariant-loop-at
invariant-loop-at g l = l.wrong ≤ 25 * l.at
