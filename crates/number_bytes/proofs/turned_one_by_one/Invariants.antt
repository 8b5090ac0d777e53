use mathlib.Core.Path.{◌≡◌}
use Prim.Native.Nat.{◌/◌, ◌^◌}
use Rattle.theory_digits.specs.Digits.{digits, value_high}
use Rattle.number_bytes.proofs.turned_one_by_one.Given as goal

abbrev pub invariant-loop : goal.invariant-loop
invariant-loop l = record {
  joined : l.turned ≡ value_high 256 (digits 256 l.counter l.x);
  rest : l.left ≡ l.x / 256 ^ l.counter;
}
