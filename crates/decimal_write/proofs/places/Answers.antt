use native.Mathlib.Omega.{arith}
use Rattle.theory_decimal.proofs.Places.{places_four, places_of_64_bits}
use Rattle.decimal_write.proofs.places.Goals as goal

pub loop-left-init : goal.loop-left-init
loop-left-init c = (omega arith, places_of_64_bits c.ranges.n.fits)

pub overflow_add-count : goal.overflow_add-count
overflow_add-count c = omega arith

pub loop-left-smaller : goal.loop-left-smaller
loop-left-smaller c = omega arith

pub loop-left-preserved : goal.loop-left-preserved
loop-left-preserved c = (omega (arith, places_four c.loop-left-test.true), omega arith)

pub places_of_four-requires : goal.places_of_four-requires
places_of_four-requires c = omega arith

pub overflow_add-result : goal.overflow_add-result
overflow_add-result c = omega arith

pub returns : goal.returns
returns c = (omega arith, omega arith)
