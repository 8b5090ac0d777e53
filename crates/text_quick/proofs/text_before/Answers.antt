use borrow.Author.Rules.{rules}
use Prim.Native.Nat.{◌+◌}
use mathlib.Core.Path.{refl}
use lib.ListN.{length}
use Rattle.text_quick.specs.Shift.{table}
use Rattle.text_quick.proofs.Rule.{good_zero, moves_none, moves_on, moves_whole, later_read, read_none}
use native.Mathlib.Omega.{arith}
use Rattle.text_quick.proofs.text_before.Goals as goal

pub loop-i-init : goal.loop-i-init
unfolding table
loop-i-init c = (search rules, (refl, (moves_none _ _ _ good_zero, read_none _)))

pub block-x-requires : goal.block-x-requires
block-x-requires c = let v = c.loop-i.invariant in (v.1.0, (v.1.1.0.good, omega arith))

pub returns-then-x-eq48 : goal.returns-then-x-eq48
returns-then-x-eq48 c =
    let v = c.loop-i in
    let s = c.args.s.now in
    let m = moves_on s v.i 64 0 v.x _ v.invariant.1.1.0 c.block-x.ensures in
    later_read s (v.i + 64) _ v.place _ (omega arith) m v.invariant.1.1.1 c.later-place.ensures

pub loop-i-preserved : goal.loop-i-preserved
loop-i-preserved c =
    let v = c.loop-i in
    let s = c.args.s.now in
    let m = moves_on s v.i 64 0 v.x _ v.invariant.1.1.0 c.block-x.ensures in
    (omega arith, (v.invariant.1.0, (m, later_read s (v.i + 64) _ v.place _ (omega arith) m v.invariant.1.1.1 c.later-place.ensures)))

pub bytes-x-requires : goal.bytes-x-requires
bytes-x-requires c = let v = c.loop-i.invariant in (v.1.0, (v.1.1.0.good, (v.0, omega arith)))

pub returns : goal.returns
returns c =
    let v = c.loop-i in
    let s = c.args.s.now in
    let m = moves_whole s v.i v.x _ v.invariant.0 v.invariant.1.1.0 c.bytes-x.ensures in
    later_read s (length s) _ v.place _ (omega arith) m v.invariant.1.1.1 c.later.ensures
