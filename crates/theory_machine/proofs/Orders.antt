-- An order as a number, which code holds in 8 bits.
use mathlib.Core.Path.{◌≡◌, refl}
use mir.Syntax.{w8}
use mir.Val.{to_z, of_z}
use Rattle.std.specs.declared.cmp.Ordering.{Ordering}
use Rattle.std.specs.declared.cmp.Ordering.TheVariants.{Less, Equal, Greater}
use Rattle.theory_whole.specs.Order.{numbered}

pub number_read : (o : Ordering) → to_z w8 (of_z w8 (numbered o)) ≡ numbered o
number_read Less = refl
number_read Equal = refl
number_read Greater = refl
