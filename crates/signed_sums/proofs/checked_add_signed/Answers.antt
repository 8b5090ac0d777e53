use mathlib.Core.Path.{ap, ◌∙◌}
use lib.Signed.{lt_z}
use Rattle.theory_whole.proofs.Signed.{mixed_sum_told, unsigned_fits_as_told, unsigned_refused_as_told}
use Rattle.signed_sums.proofs.checked_add_signed.Goals as goal

pub returns-then-lt : goal.returns-then-lt
returns-then-lt g c =
    let zero = ap g.T.Signed.whole c.ZERO.ensures ∙ g.met.T.Signed.zero_law in
    unsigned_refused_as_told g.T.Unsigned.Unsigned.bits (mixed_sum_told g.T.Unsigned.Unsigned.bits _ _ _ c.known.ensures c.known-2.ensures c.wrapping_add_signed-sum.ensures (c.lt.ensures ∙ g.met.T.Signed.lt_law _ _ ∙ ap (lt_z (g.T.Signed.whole c.args.b)) zero) c.lt-2.ensures (g.met.T.Unsigned.Unsigned.lt_law _ _)) c.if-lt.true

pub returns-else-lt : goal.returns-else-lt
returns-else-lt g c =
    let zero = ap g.T.Signed.whole c.ZERO.ensures ∙ g.met.T.Signed.zero_law in
    unsigned_fits_as_told g.T.Unsigned.Unsigned.bits (mixed_sum_told g.T.Unsigned.Unsigned.bits _ _ _ c.known.ensures c.known-2.ensures c.wrapping_add_signed-sum.ensures (c.lt.ensures ∙ g.met.T.Signed.lt_law _ _ ∙ ap (lt_z (g.T.Signed.whole c.args.b)) zero) c.lt-2.ensures (g.met.T.Unsigned.Unsigned.lt_law _ _)) c.if-lt.false
