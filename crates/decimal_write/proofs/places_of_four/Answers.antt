use mathlib.Core.Path.{sym}
use native.Mathlib.Omega.{arith}
use Prim.Native.Nat.{◌<◌}
use Rattle.theory_decimal.proofs.Places.{places_one, places_are}
use Rattle.decimal_write.proofs.places_of_four.Goals as goal

base : 1 < 10
base = omega arith

pub returns-in-0-to-9 : goal.returns-in-0-to-9
returns-in-0-to-9 c = sym (places_one 10 base _ (omega arith))

pub returns-in-10-to-99 : goal.returns-in-10-to-99
returns-in-10-to-99 c = places_are 10 base 1 _ (omega arith) (omega arith)

pub returns-in-100-to-999 : goal.returns-in-100-to-999
returns-in-100-to-999 c = places_are 10 base 2 _ (omega arith) (omega arith)

pub returns-in_default : goal.returns-in_default
returns-in_default c = places_are 10 base 3 _ (omega arith) (omega arith)
