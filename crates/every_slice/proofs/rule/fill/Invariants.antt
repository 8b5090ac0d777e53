use mathlib.Core.Path.{◌≡◌}
use Prim.Native.Nat.{◌-◌}
use lib.ListN.{length}
use Rattle.every_slice.proofs.rule.fill.Given as goal

abbrev pub invariant-loop-k : goal.invariant-loop-k
invariant-loop-k l = length l.new ≡ length l.initial.new

abbrev pub decreases-loop-k : goal.decreases-loop-k
decreases-loop-k l = length l.initial.new - l.k
