use mathlib.Core.Path.{ap, sym, ◌∙◌}
use lib.Signed.{lt_z}
use Rattle.theory_whole.proofs.Signed.{negative_magnitude, natural_magnitude}
use Rattle.signed_order.proofs.magnitude.Goals as goal

pub returns-then-lt : goal.returns-then-lt
returns-then-lt g c =
    let zero = ap g.T.Signed.whole c.ZERO.ensures ∙ g.met.T.Signed.zero_law in
    negative_magnitude g.T.Unsigned.Unsigned.bits (ap g.T.Unsigned.Unsigned.whole c.ZERO-then-lt.ensures ∙ g.met.T.Unsigned.Unsigned.zero_law) c.wrapping_sub.ensures _ c.known.ensures
    (sym (c.if-lt.ensures ∙ g.met.T.Signed.lt_law _ _ ∙ ap (lt_z (g.T.Signed.whole c.args.a)) zero)) c.bits.ensures

pub returns-else-lt : goal.returns-else-lt
returns-else-lt g c =
    let zero = ap g.T.Signed.whole c.ZERO.ensures ∙ g.met.T.Signed.zero_law in
    natural_magnitude g.T.Unsigned.Unsigned.bits _ _ c.known.ensures (sym (c.if-lt.ensures ∙ g.met.T.Signed.lt_law _ _ ∙ ap (lt_z (g.T.Signed.whole c.args.a)) zero)) c.bits-else-lt.ensures
