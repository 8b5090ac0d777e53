use mathlib.Core.Path.{◌≡◌}
use Prim.Native.Nat.{◌-◌}
use lib.ListN.{length}
use Rattle.every_slice.proofs.pattern.Given as goal

abbrev pub invariant-loop-k : goal.invariant-loop-k
invariant-loop-k l = length l.d ≡ length l.initial.d

abbrev pub decreases-loop-k : goal.decreases-loop-k
decreases-loop-k l = length l.initial.d - l.k
