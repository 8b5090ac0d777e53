use mathlib.Core.Path.{ap, ◌∙◌}
use native.Mathlib.Omega.{arith}
use Rattle.theory_answers.proofs.Says.{it_says, it_denies}
use Rattle.theory_whole.proofs.Unsigned.{wraps_same, wraps_over}
use Rattle.unsigned_sums.proofs.wrapping_add.Goals as goal

pub returns-then-le : goal.returns-then-le
returns-then-le g c =
    let u = g.met.T.Unsigned in
    let fits = it_says (u.le_law c.args.b c.room-room.result) c.if-le.ensures in
    let sum = u.add_law _ _ _ c.add.ensures in
    let room = c.room-room.ensures in
    wraps_same g.T.Unsigned.bits _ _ (omega arith) (omega arith)

pub returns-else-le : goal.returns-else-le
returns-else-le g c =
    let u = g.met.T.Unsigned in
    let over = it_denies (u.le_law c.args.b c.room-room.result) c.if-le.ensures in
    let known = c.known.ensures in
    let room = c.room-room.ensures in
    let less = u.sub_law _ _ _ c.sub.ensures in
    let one = ap g.T.Unsigned.whole c.ONE.ensures ∙ u.one_law in
    let sum = u.sub_law _ _ _ c.sub-else-le.ensures in
    wraps_over g.T.Unsigned.bits _ _ (omega arith) (omega arith)
