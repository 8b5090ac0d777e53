use borrow.Author.Rules.{rules}
use mathlib.Core.Path.{◌≡◌}
use Rattle.text_quick.proofs.Rule.{moves_none, moves_next}
use native.Mathlib.Nat.{sub_self}
use native.Mathlib.Omega.{arith}
use Rattle.text_quick.proofs.bytes.Goals as goal

pub loop-i-init : goal.loop-i-init
loop-i-init c = (search rules, rw sub_self (moves_none _ _ _ c.requires.1.0))

pub next-y-requires : goal.next-y-requires
next-y-requires c = (c.requires.0, c.loop-i.invariant.1.good)

pub loop-i-preserved : goal.loop-i-preserved
loop-i-preserved c =
    let a = c.args in
    let v = c.loop-i in
    (search rules, moves_next a.s.now a.from v.i a.x v.y _ (omega arith) (omega arith) v.invariant.1 c.next-y.ensures.0 c.next-y.ensures.1)

pub returns : goal.returns
returns c =
    let a = c.args in
    let v = c.loop-i in
    let e : v.i ≡ a.to = omega arith in
    rw (← e) v.invariant.1
