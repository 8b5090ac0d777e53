use mathlib.Core.Path.{ap, ◌∙◌}
use native.Mathlib.Omega.{arith}
use Rattle.theory_digits.proofs.Counting.{leading_start, leading_more, leading_next, leading_end}
use Rattle.zeros.proofs.Left.{something_left, nothing_left}
use Rattle.zeros.proofs.leading_zeros.Goals as goal

pub loop-upper-init : goal.loop-upper-init
loop-upper-init g c = rw (c.BITS-leading.ensures, g.met.T.Unsigned.bits_law) (leading_start g.T.Unsigned.bits c.known.ensures)

pub overflow_sub-leading : goal.overflow_sub-leading
overflow_sub-leading g c =
    let u = g.met.T.Unsigned in
    let zero = ap g.T.Unsigned.whole c.ZERO.ensures ∙ u.zero_law in
    let left = something_left zero _ (u.eq_law c.loop-upper.upper c.ZERO.result) c.loop-upper-test.ensures in
    omega (arith, leading_more g.T.Unsigned.bits c.known.ensures c.loop-upper.invariant left)

pub loop-upper-smaller : goal.loop-upper-smaller
loop-upper-smaller g c =
    let u = g.met.T.Unsigned in
    let zero = ap g.T.Unsigned.whole c.ZERO.ensures ∙ u.zero_law in
    let left = something_left zero _ (u.eq_law c.loop-upper.upper c.ZERO.result) c.loop-upper-test.ensures in
    omega (arith, leading_more g.T.Unsigned.bits c.known.ensures c.loop-upper.invariant left)

pub loop-upper-preserved : goal.loop-upper-preserved
loop-upper-preserved g c =
    let u = g.met.T.Unsigned in
    let zero = ap g.T.Unsigned.whole c.ZERO.ensures ∙ u.zero_law in
    let left = something_left zero _ (u.eq_law c.loop-upper.upper c.ZERO.result) c.loop-upper-test.ensures in
    rw (u.shr_law _ _ _ c.shr-upper.ensures) (leading_next g.T.Unsigned.bits c.known.ensures c.loop-upper.invariant left)

pub returns : goal.returns
returns g c =
    let u = g.met.T.Unsigned in
    let zero = ap g.T.Unsigned.whole c.ZERO.ensures ∙ u.zero_law in
    leading_end g.T.Unsigned.bits c.known.ensures c.loop-upper.invariant (nothing_left zero _ (u.eq_law c.loop-upper.upper c.ZERO.result) c.loop-upper-test.ensures)
