use Prim.Native.Nat.{◌+◌, ◌-◌}
use mathlib.Core.Path.{◌≡◌}
use Rattle.text_quick.proofs.Rule.{moves_ascii}
use native.Mathlib.Omega.{arith}
use Rattle.text_quick.proofs.quarter.Goals as goal

pub returns-then-ascii_block : goal.returns-then-ascii_block
returns-then-ascii_block c =
    let a = c.args in
    let b = c.ascii_block.ensures c.if-ascii_block.true in
    moves_ascii a.s.now a.from 16 a.x c.if-x-eq0.true b.1 b.0

pub returns : goal.returns
returns c =
    let a = c.args in
    let e : a.from + 16 - a.from ≡ 16 = omega arith in
    rw e at c.bytes.ensures
