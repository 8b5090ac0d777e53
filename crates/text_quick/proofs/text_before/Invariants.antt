use Prim.Native.Nat.{◌-◌, ◌≤◌}
use mathlib.Core.Path.{◌≡◌}
use lib.ListN.{length}
use Rattle.theory_text.specs.Reading.{ReadFrom}
use Rattle.text_quick.specs.Shift.{table, Moves}
use Rattle.text_quick.proofs.text_before.Given as goal

abbrev pub invariant-loop-i : goal.invariant-loop-i
invariant-loop-i l = (l.i ≤ length l.s) × ((l.t ≡ table) × (Moves l.s 0 l.i 0 l.x × ReadFrom l.s l.place))

abbrev pub decreases-loop-i : goal.decreases-loop-i
decreases-loop-i l = length l.s - l.i
