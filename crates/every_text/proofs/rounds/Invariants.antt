use Prim.Native.Nat.{◌≤◌, ◌-◌}
use Rattle.every_text.proofs.rounds.Given as goal

abbrev pub invariant-loop-c : goal.invariant-loop-c
invariant-loop-c l = ((l.from ≤ l.c) × (l.c ≤ l.to)) × (l.count ≤ l.c - l.from)

abbrev pub decreases-loop-c : goal.decreases-loop-c
decreases-loop-c l = l.to - l.c
