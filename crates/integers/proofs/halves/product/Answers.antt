use mathlib.Core.Path.{sym, ap, ◌∙◌}
use Prim.Native.Nat.{◌*◌}
use lib.IntN.{nat_abs}
use Rattle.theory_whole.proofs.Products.{product_below, product_by_halves, high_half, low_half}
use Rattle.theory_whole.proofs.Unsigned.{wraps_remainder}
use Rattle.integers.proofs.halves.product.Goals as goal

pub overflow_mul-a_low : goal.overflow_mul-a_low
overflow_mul-a_low c = record { fits = product_below 32 32 (low_half 32 c.args.a) (high_half 32 c.ranges.b.fits) }

pub overflow_mul-b_low : goal.overflow_mul-b_low
overflow_mul-b_low c = record { fits = product_below 32 32 (low_half 32 c.args.b) (high_half 32 c.ranges.a.fits) }

pub overflow_mul-a_low-2 : goal.overflow_mul-a_low-2
overflow_mul-a_low-2 c = record { fits = product_below 32 32 (low_half 32 c.args.a) (low_half 32 c.args.b) }

pub returns : goal.returns
returns c = ap nat_abs (product_by_halves 32 c.args.a c.args.b _ _ c.sum-cross.ensures c.sum.ensures ∙ sym (wraps_remainder 64 (c.args.a * c.args.b)))
