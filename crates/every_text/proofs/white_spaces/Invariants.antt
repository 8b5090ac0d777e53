use Prim.Native.Nat.{◌≤◌, ◌-◌}
use Rattle.every_text.proofs.white_spaces.Given as goal

abbrev pub invariant-loop-c : goal.invariant-loop-c
invariant-loop-c l = (l.count ≤ l.c) × (l.c ≤ 0x111000)

abbrev pub decreases-loop-c : goal.decreases-loop-c
decreases-loop-c l = 0x111000 - l.c
