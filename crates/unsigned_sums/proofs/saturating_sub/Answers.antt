use native.Mathlib.Omega.{arith}
use mathlib.Core.Path.{ap, ◌∙◌}
use lib.IntN.{pos}
use Rattle.theory_answers.proofs.Says.{it_says, it_denies}
use Rattle.theory_whole.proofs.Unsigned.{clamps_difference, clamps_under}
use Rattle.unsigned_sums.proofs.saturating_sub.Goals as goal

pub returns-then-lt : goal.returns-then-lt
returns-then-lt g c =
    let u = g.met.T.Unsigned in
    ap (λ z. pos (g.T.Unsigned.whole z)) c.ZERO.ensures ∙ ap pos u.zero_law
    ∙ clamps_under g.T.Unsigned.bits (it_says (u.lt_law c.args.a c.args.b) c.if-lt.ensures)

pub returns-else-lt : goal.returns-else-lt
returns-else-lt g c =
    let fits = it_denies (g.met.T.Unsigned.lt_law c.args.a c.args.b) c.if-lt.ensures in
    rw (g.met.T.Unsigned.sub_law _ _ _ c.sub.ensures) (clamps_difference g.T.Unsigned.bits c.known.ensures (omega arith))
