use mathlib.Core.Path.{◌≡◌}
use mathlib.Core.List.{◌++◌}
use Prim.Native.Nat.{◌-◌, ◌/◌, ◌^◌}
use lib.ListN.{length, take}
use Rattle.theory_digits.specs.Digits.{digits_high}
use Rattle.number_bytes.proofs.put_be.Given as goal

abbrev pub invariant-loop-i : goal.invariant-loop-i
invariant-loop-i l = record {
  put : l.room ≡ take (length l.initial.room - l.i) l.initial.room ++ digits_high 256 l.i l.x;
  rest : l.left ≡ l.x / 256 ^ l.i;
}
