use mathlib.Core.Path.{◌≡◌}
use lib.ListN.{take}
use Rattle.theory_digits.specs.Digits.{value}
use Rattle.number_bytes.proofs.joined.Given as goal

abbrev pub invariant-loop-i : goal.invariant-loop-i
invariant-loop-i l = l.x ≡ value 256 (take l.i l.s)
