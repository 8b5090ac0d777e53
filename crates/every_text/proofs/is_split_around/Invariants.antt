use Prim.Native.Nat.{◌≤◌, ◌-◌}
use Rattle.every_text.proofs.is_split_around.Given as goal

abbrev pub invariant-loop-at : goal.invariant-loop-at
invariant-loop-at l = l.at ≤ 8

abbrev pub decreases-loop-at : goal.decreases-loop-at
decreases-loop-at l = 8 - l.at
