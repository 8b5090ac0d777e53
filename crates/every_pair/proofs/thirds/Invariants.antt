use Prim.Native.Nat.{◌≤◌}
use Rattle.every_pair.proofs.thirds.Given as goal

abbrev pub invariant-loop-c : goal.invariant-loop-c
invariant-loop-c l = l.count ≤ l.c
