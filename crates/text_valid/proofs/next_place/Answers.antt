use Rattle.theory_text.proofs.Steps.{next_within}
use Rattle.text_valid.proofs.Onward.{past_ascii, past_scalar}
use native.Mathlib.Omega.{arith}
use Rattle.text_valid.proofs.next_place.Goals as goal

pub returns-then-s-at-lt128 : goal.returns-then-s-at-lt128
returns-then-s-at-lt128 c = past_ascii _ _ c.requires _ c.if-s-at-lt128.true c.ascii_from.ensures

pub overflow_add-result : goal.overflow_add-result
overflow_add-result c =
    let a = c.args in
    record { fits = omega (arith, next_within a.s.now a.at (omega arith), c.in_ok-first_at.ensures) }

pub returns : goal.returns
returns c = let f = c.in_ok-first_at.ensures in past_scalar _ _ c.requires _ f.0 f.1
