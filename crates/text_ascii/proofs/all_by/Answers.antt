use borrow.Author.Rules.{rules}
use native.Mathlib.Omega.{arith}
use Prim.Native.Nat.{◌-◌, ◌+◌}
use mathlib.Core.Bool.{true}
use lib.ListN.{length}
use Rattle.theory_answers.proofs.Says.{says_true, says_false}
use Rattle.theory_lists.specs.Part.{Within}
use Rattle.theory_lists.proofs.Search.{each_start, each_join, says_all_rest}
use Rattle.theory_lists.proofs.Below.{part_below, says_below, says_part_below}
use Rattle.text_ascii.proofs.all_by.Goals as goal

pub loop-i-init : goal.loop-i-init
loop-i-init c = (omega arith, each_start true _ 0)

pub returns-then-not-all : goal.returns-then-not-all
returns-then-not-all c =
    let l = c.loop-i in
    let a = c.args in
    λ e. says_false c.all.ensures c.if-not-all.true (part_below 0x80 a.s.now l.i (l.i + a.size) e)

pub loop-i-preserved : goal.loop-i-preserved
loop-i-preserved c =
    let l = c.loop-i in
    let a = c.args in
    let w : Within l.i (l.i + a.size) a.s.now = search rules in
    let block = says_part_below 0x80 a.s.now c.all.result w c.all.ensures in
    (omega arith, each_join true _ 0 l.i (l.i + a.size) l.invariant.1 (says_true block c.if-not-all.false))

pub returns : goal.returns
returns c =
    let l = c.loop-i in
    let a = c.args in
    let last = length a.s.now - a.size in
    let w : Within last (length a.s.now) a.s.now = search rules in
    let block = says_part_below 0x80 a.s.now c.all-2.result w c.all-2.ensures in
    says_below 0x80 a.s.now c.all-2.result
    (says_all_rest _ c.all-2.result 0 l.i last _ (omega arith) (omega arith) l.invariant.1 block)
