use borrow.Author.Rules.{rules}
use native.Mathlib.Omega.{arith}
use Prim.Native.Nat.{◌-◌, ◌+◌}
use mathlib.Core.Bool.{false}
use lib.ListN.{length}
use Rattle.theory_lists.specs.Search.{is}
use Rattle.theory_answers.proofs.Says.{says_true, says_false}
use Rattle.theory_lists.proofs.Search.{each_start, each_join, any_more, not_any_is_none, says_any_part, says_any_rest}
use Rattle.theory_lists.specs.Part.{Within}
use Rattle.slices_whole.proofs.stands_by.Goals as goal

pub loop-i-init : goal.loop-i-init
loop-i-init c = (omega arith, each_start false _ 0)

pub returns-then-stands_in : goal.returns-then-stands_in
returns-then-stands_in c =
    let l = c.loop-i in
    let a = c.args in
    let w : Within l.i (l.i + a.size) a.s.now = search rules in
    any_more _ 0 _ l.i (l.i + a.size) (omega arith) (omega arith) (says_true (says_any_part (is a.v) w c.stands_in.result c.stands_in.ensures) c.if-stands_in.true)

pub loop-i-preserved : goal.loop-i-preserved
loop-i-preserved c =
    let l = c.loop-i in
    let a = c.args in
    let w : Within l.i (l.i + a.size) a.s.now = search rules in
    let block = says_false (says_any_part (is a.v) w c.stands_in.result c.stands_in.ensures) c.if-stands_in.false in
    (omega arith, each_join false _ 0 l.i (l.i + a.size) l.invariant.1 (not_any_is_none _ l.i (l.i + a.size) block))

pub returns : goal.returns
returns c =
    let l = c.loop-i in
    let a = c.args in
    let last = length a.s.now - a.size in
    let w : Within last (length a.s.now) a.s.now = search rules in
    says_any_rest _ c.stands_in-2.result 0 l.i last _ (omega arith) (omega arith) l.invariant.1 (says_any_part (is a.v) w c.stands_in-2.result c.stands_in-2.ensures)
