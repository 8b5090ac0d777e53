use mathlib.Core.Path.{◌≡◌}
use Prim.Native.Nat.{◌+◌, ◌≤◌}
use lib.ListN.{length}
use Rattle.theory_decimal.proofs.Writing.{Put}
use Rattle.decimal_write.proofs.put.Given as goal

abbrev pub invariant-loop-place : goal.invariant-loop-place
invariant-loop-place l = Put l.initial.out (l.at + l.count) l.n l.out l.place l.left × (l.at ≤ l.place) × (l.place ≤ l.at + l.count) × (length l.out ≡ length l.initial.out)

abbrev pub decreases-loop-place : goal.decreases-loop-place
decreases-loop-place l = l.place
