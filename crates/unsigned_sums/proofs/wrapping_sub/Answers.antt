use mathlib.Core.Path.{ap, ◌∙◌}
use native.Mathlib.Omega.{arith}
use lib.IntN.{pos}
use Rattle.theory_answers.proofs.Says.{it_says, it_denies}
use Rattle.theory_whole.proofs.Halves.{difference}
use Rattle.theory_whole.proofs.Unsigned.{wraps_same, wraps_under}
use Rattle.unsigned_sums.proofs.wrapping_sub.Goals as goal

pub returns-then-le : goal.returns-then-le
returns-then-le g c =
    let u = g.met.T.Unsigned in
    let more = it_says (u.le_law c.args.b c.args.a) c.if-le.ensures in
    let less = u.sub_law _ _ _ c.sub.ensures in
    let known = c.known.ensures in
    let d = difference (pos (g.T.Unsigned.whole c.args.a)) (pos (g.T.Unsigned.whole c.args.b)) in
    wraps_same g.T.Unsigned.bits _ _ (omega arith) (omega arith)

pub returns-else-le : goal.returns-else-le
returns-else-le g c =
    let u = g.met.T.Unsigned in
    let under = it_denies (u.le_law c.args.b c.args.a) c.if-le.ensures in
    let room = c.room.ensures in
    let sum = u.add_law _ _ _ c.add.ensures in
    let one = ap g.T.Unsigned.whole c.ONE.ensures ∙ u.one_law in
    let one_more = u.add_law _ _ _ c.add-else-le.ensures in
    let d = difference (pos (g.T.Unsigned.whole c.args.a)) (pos (g.T.Unsigned.whole c.args.b)) in
    wraps_under g.T.Unsigned.bits _ _ (omega arith) (omega arith)
