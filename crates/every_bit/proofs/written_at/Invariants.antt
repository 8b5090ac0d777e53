use Prim.Native.Nat.{◌+◌, ◌≤◌}
use Rattle.every_bit.proofs.written_at.Given as goal

abbrev pub invariant-loop-i : goal.invariant-loop-i
invariant-loop-i l = l.wrong ≤ l.i + 1
