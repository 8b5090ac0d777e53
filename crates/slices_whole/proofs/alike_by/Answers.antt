use borrow.Author.Rules.{rules}
use native.Mathlib.Omega.{arith}
use mathlib.Core.Path.{◌≡◌}
use mathlib.Core.Bool.{true}
use Prim.Native.Nat.{◌-◌, ◌+◌}
use lib.ListN.{length}
use Rattle.theory_lists.specs.Part.{Within}
use Rattle.theory_answers.proofs.Says.{says_true, says_false}
use Rattle.theory_lists.proofs.Search.{each_start, each_join, says_all_rest, says_same, says_same_part, same_alike}
use Rattle.slices_whole.proofs.alike_by.Goals as goal

pub loop-i-init : goal.loop-i-init
loop-i-init c = (omega arith, each_start true _ 0)

pub returns-then-not-alike : goal.returns-then-not-alike
returns-then-not-alike c =
    let l = c.loop-i in
    let a = c.args in
    let w : Within l.i (l.i + a.size) a.a.now = search rules in
    let v : Within l.i (l.i + a.size) a.b.now = search rules in
    let block = says_same_part a.a.now a.b.now c.alike.result w v c.alike.ensures in
    λ e. says_false block c.if-not-alike.true (same_alike a.a.now a.b.now l.i (l.i + a.size) e)

pub loop-i-preserved : goal.loop-i-preserved
loop-i-preserved c =
    let l = c.loop-i in
    let a = c.args in
    let w : Within l.i (l.i + a.size) a.a.now = search rules in
    let v : Within l.i (l.i + a.size) a.b.now = search rules in
    let block = says_same_part a.a.now a.b.now c.alike.result w v c.alike.ensures in
    (omega arith, each_join true _ 0 l.i (l.i + a.size) l.invariant.1 (says_true block c.if-not-alike.false))

pub returns : goal.returns
returns c =
    let l = c.loop-i in
    let a = c.args in
    let last = length a.a.now - a.size in
    let w : Within last (length a.a.now) a.a.now = search rules in
    let v : Within last (length a.a.now) a.b.now = search rules in
    let e : length a.a.now ≡ length a.b.now = omega arith in
    let block = says_same_part a.a.now a.b.now c.alike-2.result w v (rw (← e) at c.alike-2.ensures) in
    says_same a.a.now a.b.now c.alike-2.result e
    (says_all_rest _ c.alike-2.result 0 l.i last _ (omega arith) (omega arith) l.invariant.1 block)
