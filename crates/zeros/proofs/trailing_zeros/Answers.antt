use mathlib.Core.Path.{ap, ◌∙◌}
use native.Mathlib.Omega.{arith}
use Rattle.theory_digits.proofs.Counting.{trailing_start, trailing_more, trailing_next, trailing_end}
use Rattle.zeros.proofs.Left.{something_left, nothing_left}
use Rattle.zeros.proofs.trailing_zeros.Goals as goal

pub loop-lower-init : goal.loop-lower-init
loop-lower-init g c = rw (c.BITS-trailing.ensures, g.met.T.Unsigned.bits_law) (trailing_start g.T.Unsigned.bits c.known.ensures)

pub overflow_sub-trailing : goal.overflow_sub-trailing
overflow_sub-trailing g c =
    let u = g.met.T.Unsigned in
    let zero = ap g.T.Unsigned.whole c.ZERO.ensures ∙ u.zero_law in
    let left = something_left zero _ (u.eq_law c.loop-lower.lower c.ZERO.result) c.loop-lower-test.ensures in
    omega (arith, trailing_more g.T.Unsigned.bits c.known.ensures c.loop-lower.invariant left)

pub loop-lower-smaller : goal.loop-lower-smaller
loop-lower-smaller g c =
    let u = g.met.T.Unsigned in
    let zero = ap g.T.Unsigned.whole c.ZERO.ensures ∙ u.zero_law in
    let left = something_left zero _ (u.eq_law c.loop-lower.lower c.ZERO.result) c.loop-lower-test.ensures in
    omega (arith, trailing_more g.T.Unsigned.bits c.known.ensures c.loop-lower.invariant left)

pub loop-lower-preserved : goal.loop-lower-preserved
loop-lower-preserved g c =
    let u = g.met.T.Unsigned in
    let zero = ap g.T.Unsigned.whole c.ZERO.ensures ∙ u.zero_law in
    let left = something_left zero _ (u.eq_law c.loop-lower.lower c.ZERO.result) c.loop-lower-test.ensures in
    rw (u.shl_law _ _ _ c.shl-lower.ensures) (trailing_next g.T.Unsigned.bits c.known.ensures c.loop-lower.invariant left)

pub returns : goal.returns
returns g c =
    let u = g.met.T.Unsigned in
    let zero = ap g.T.Unsigned.whole c.ZERO.ensures ∙ u.zero_law in
    trailing_end g.T.Unsigned.bits c.known.ensures c.loop-lower.invariant (nothing_left zero _ (u.eq_law c.loop-lower.lower c.ZERO.result) c.loop-lower-test.ensures)
