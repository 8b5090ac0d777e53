use native.Mathlib.Omega.{arith}
use lib.ListN.{length-set}
use Rattle.theory_decimal.proofs.Writing.{put_none, put_two, put_all, put_first, left_is_digit}
use Rattle.decimal_write.proofs.put.Goals as goal

pub loop-place-init : goal.loop-place-init
loop-place-init c = (put_none _ _ _, omega arith, omega arith, omega arith)

pub bounds-out-place-in-loop-place : goal.bounds-out-place-in-loop-place
bounds-out-place-in-loop-place c = simp length-set (omega arith)

pub loop-place-preserved : goal.loop-place-preserved
loop-place-preserved c =
    let inv = c.loop-place.invariant in
    (put_two _ _ _ (omega arith) _ _ _ (omega arith) inv.0, omega arith, omega arith, simp length-set (omega arith))

pub overflow_cast-out : goal.overflow_cast-out
overflow_cast-out c =
    let l = left_is_digit _ _ _ _ (omega arith) _ _ _ c.loop-place.invariant.0 c.requires.1 (omega arith) in
    omega (arith, l)

pub overflow_add-out-then-at-place : goal.overflow_add-out-then-at-place
overflow_add-out-then-at-place c =
    let l = left_is_digit _ _ _ _ (omega arith) _ _ _ c.loop-place.invariant.0 c.requires.1 (omega arith) in
    omega (arith, l)

pub shape_of-out-then-at-place : goal.shape_of-out-then-at-place
shape_of-out-then-at-place c = simp length-set (omega arith)

pub returns-then-at-place : goal.returns-then-at-place
returns-then-at-place c = put_first _ _ _ _ (omega arith) _ _ _ c.loop-place.invariant.0 c.requires.1 (omega arith)

pub returns-else-at-place : goal.returns-else-at-place
returns-else-at-place c = put_all _ _ _ _ (omega arith) _ _ _ c.loop-place.invariant.0 (omega arith)
