use mathlib.Core.Path.{◌≡◌}
use Prim.Native.Nat.{◌+◌, ◌≤◌}
use Rattle.theory_decimal.specs.Written as text
use Rattle.decimal_write.proofs.places.Given as goal

abbrev pub invariant-loop-left : goal.invariant-loop-left
invariant-loop-left l = (l.count + text.places 10 l.left ≡ text.places 10 l.n) × (text.places 10 l.n ≤ 20)

abbrev pub decreases-loop-left : goal.decreases-loop-left
decreases-loop-left l = l.left
