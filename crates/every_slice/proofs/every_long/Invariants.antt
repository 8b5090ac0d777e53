use Prim.Native.Nat.{◌-◌, ◌≤◌}
use Rattle.every_slice.proofs.every_long.Given as goal

abbrev pub invariant-loop-c : goal.invariant-loop-c
invariant-loop-c l = 0 ≤ l.c

abbrev pub decreases-loop-c : goal.decreases-loop-c
decreases-loop-c l = 8112 - l.c
