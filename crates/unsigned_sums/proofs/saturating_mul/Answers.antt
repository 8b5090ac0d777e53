use mathlib.Core.Path.{ap, ◌∙◌}
use native.Mathlib.Omega.{arith}
use lib.IntN.{pos}
use Rattle.theory_whole.proofs.Unsigned.{clamps_or_greatest}
use Rattle.unsigned_sums.proofs.saturating_mul.Goals as goal

pub returns : goal.returns
returns g c =
    let most = ap g.T.Unsigned.whole c.MAX.ensures in
    let top = g.met.T.Unsigned.max_law in
    ap (λ z. pos (g.T.Unsigned.whole z)) c.unwrap_or.ensures ∙ clamps_or_greatest g.T.Unsigned.bits g.T.Unsigned.whole _ _ _ (omega arith) c.checked_mul.ensures
