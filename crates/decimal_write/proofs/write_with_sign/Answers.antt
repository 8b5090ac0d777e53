use native.Mathlib.Omega.{arith}
use borrow.Author.Tests.{not-true, not-false}
use lib.ListN.{length-set}
use Rattle.theory_decimal.proofs.Showing.{figures_hold, with_sign_no_room, with_sign_shown, with_sign_length}
use Rattle.decimal_write.proofs.write_with_sign.Goals as goal

pub returns-then-not-negative : goal.returns-then-not-negative
returns-then-not-negative c =
    let w = c.write_u64 in
    let n = not-true c.args.negative c.if-not-negative.true-raw in
    rw n w.ensures

pub returns-then-out-count : goal.returns-then-out-count
returns-then-out-count c =
    let y = not-false c.args.negative c.if-not-negative.false-raw in
    rw y (with_sign_no_room _ _ _ _ c.places-count.ensures.0 (omega arith))

pub returns-then-out-count-2 : goal.returns-then-out-count-2
returns-then-out-count-2 c =
    let y = not-false c.args.negative c.if-not-negative.false-raw in
    rw y (with_sign_no_room _ _ _ _ c.places-count.ensures.0 (omega arith))

pub put-requires : goal.put-requires
put-requires c = (simp length-set (omega arith), figures_hold _ _ c.places-count.ensures.0)

pub shape_of-out : goal.shape_of-out
shape_of-out c =
    let start = c.args in
    with_sign_length start.out.now start.at _ _ c.places-count.ensures.0 (omega arith) _
    c.put.ensures

pub returns : goal.returns
returns c =
    let y = not-false c.args.negative
    c.if-not-negative.false-raw in
    rw y (with_sign_shown _ _ _ _ c.places-count.ensures.0 (omega arith) _ c.put.ensures)
