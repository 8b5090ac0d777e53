use mathlib.Core.Path.{◌≡◌}
use mathlib.Core.List.{◌++◌}
use Prim.Native.Nat.{◌/◌, ◌^◌}
use lib.ListN.{drop}
use Rattle.theory_digits.specs.Digits.{digits}
use Rattle.number_bytes.proofs.put_le.Given as goal

abbrev pub invariant-loop-byte : goal.invariant-loop-byte
invariant-loop-byte l = record {
  put : l.room ≡ digits 256 l.byte-index l.x ++ drop l.byte-index l.initial.room;
  rest : l.left ≡ l.x / 256 ^ l.byte-index;
}
