use borrow.Author.Rules.{rules}
use Prim.Native.Nat.{◌+◌}
use mathlib.Core.Bool.{true}
use lib.ListN.{get_or}
use borrow.Author.Tests.{lt-ltb}
use Rattle.theory_lists.specs.Part.{Within}
use Rattle.theory_lists.specs.Search.{holds_at, below}
use Rattle.theory_lists.proofs.Search.{each_start, each_join, each_one}
use Rattle.theory_lists.proofs.Below.{below_is_all, all_is_below}
use native.Mathlib.Omega.{arith}
use Rattle.text_ascii.proofs.ascii_from.Goals as goal

pub loop-i-init : goal.loop-i-init
loop-i-init c = (search rules, each_start true _ _)

pub overflow_add-i : goal.overflow_add-i
overflow_add-i c = let b = c.ascii_block.ensures c.loop-i-test.true in search rules

pub loop-i-smaller : goal.loop-i-smaller
loop-i-smaller c = let b = c.ascii_block.ensures c.loop-i-test.true in omega arith

pub loop-i-preserved : goal.loop-i-preserved
loop-i-preserved c =
    let v = c.loop-i in
    let b = c.ascii_block.ensures c.loop-i-test.true in
    let s = c.args.s.now in
    let w : Within v.i (v.i + 64) s = record { ordered = omega arith; ends = b.0 } in
    ((omega arith, λ h. b.0), each_join true _ _ v.i (v.i + 64) v.invariant.1 (below_is_all 0x80 s w b.1))

pub loop-i-2-init : goal.loop-i-2-init
loop-i-2-init c = c.loop-i.invariant

pub loop-i-2-preserved : goal.loop-i-2-preserved
loop-i-2-preserved c =
    let v = c.loop-i-2 in
    let s = c.args.s.now in
    let next = each_one true (holds_at (below 0x80) s) v.i (lt-ltb (get_or s v.i 0) 0x80 c.if-s-i-lt128.true) in
    ((omega arith, λ h. omega arith), each_join true _ _ v.i (v.i + 1) v.invariant.1 next)

pub returns-else-s-i-lt128 : goal.returns-else-s-i-lt128
returns-else-s-i-lt128 c =
    let v = c.loop-i-2.invariant in
    record { ordered = v.0.0; inside = v.0.1; ascii = all_is_below 0x80 _ _ _ v.1; stops = λ h. c.if-s-i-lt128.false }

pub returns-after-loop-i-2 : goal.returns-after-loop-i-2
returns-after-loop-i-2 c =
    let v = c.loop-i-2.invariant in
    record { ordered = v.0.0; inside = v.0.1; ascii = all_is_below 0x80 _ _ _ v.1; stops = λ h. absurd (omega arith) }
