use native.Mathlib.Omega.{arith}
use Rattle.theory_whole.proofs.Products.{product_below}
use Rattle.every_pair.proofs.whole.product.Goals as goal

pub overflow_mul-result : goal.overflow_mul-result
overflow_mul-result c = record { fits = product_below 32 32 (omega arith) (omega arith) }
