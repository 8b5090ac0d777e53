use mathlib.Core.Path.{◌≡◌, ap}
use Prim.Native.Nat.{◌-◌, ◌^◌}
use native.Mathlib.Omega.{arith}
use Rattle.theory_answers.proofs.Says.{it_says, it_denies}
use Rattle.theory_whole.proofs.Unsigned.{clamps_same, clamps_over}
use Rattle.unsigned_sums.proofs.saturating_add.Goals as goal

pub returns-then-lt : goal.returns-then-lt
returns-then-lt g c =
    let over = it_says (g.met.T.Unsigned.lt_law c.room.result c.args.b) c.if-lt.ensures in
    let room = c.room.ensures in
    let most = ap g.T.Unsigned.whole c.MAX.ensures in
    let top = g.met.T.Unsigned.max_law in
    let greatest : g.T.Unsigned.whole c.MAX.result ≡ 2 ^ g.T.Unsigned.bits - 1 = omega arith in
    rw greatest (clamps_over g.T.Unsigned.bits (omega arith))

pub returns-else-lt : goal.returns-else-lt
returns-else-lt g c =
    let fits = it_denies (g.met.T.Unsigned.lt_law c.room.result c.args.b) c.if-lt.ensures in
    let room = c.room.ensures in
    rw (g.met.T.Unsigned.add_law _ _ _ c.add.ensures) (clamps_same g.T.Unsigned.bits (omega arith))
