use native.Mathlib.Omega.{arith}
use Rattle.theory_decimal.proofs.Showing.{figures_hold, natural_no_room, natural_shown}
use Rattle.decimal_write.proofs.write_u64.Goals as goal

pub returns-then-out-count : goal.returns-then-out-count
returns-then-out-count c = natural_no_room _ _ _ _ c.places-count.ensures.0 (omega arith)

pub returns-then-out-count-2 : goal.returns-then-out-count-2
returns-then-out-count-2 c = natural_no_room _ _ _ _ c.places-count.ensures.0 (omega arith)

pub put-requires : goal.put-requires
put-requires c = (omega arith, figures_hold _ _ c.places-count.ensures.0)

pub returns : goal.returns
returns c = natural_shown _ _ _ _ c.places-count.ensures.0 (omega arith) _ c.put.ensures
