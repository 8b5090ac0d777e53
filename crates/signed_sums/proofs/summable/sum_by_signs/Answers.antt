use mathlib.Core.Path.{ap, ◌∙◌}
use lib.Signed.{lt_z}
use Rattle.theory_whole.proofs.Signed.{sum_told, fits_as_told, refused_as_told}
use Rattle.signed_sums.proofs.summable.sum_by_signs.Goals as goal

pub returns-then-lt-negative : goal.returns-then-lt-negative
returns-then-lt-negative g c =
    let first = ap g.T.Signed.whole c.ZERO-2.ensures ∙ g.met.T.Signed.zero_law in
    let second = ap g.T.Signed.whole c.ZERO-3.ensures ∙ g.met.T.Signed.zero_law in
    let wraps = ap g.T.Signed.whole c.ZERO.ensures ∙ g.met.T.Signed.zero_law in
    refused_as_told g.T.Unsigned.Unsigned.bits
    (sum_told g.T.Unsigned.Unsigned.bits _ c.known.ensures _ g.met.T.Unsigned.Unsigned.some_bits_law c.known-2.ensures c.wrapping_add-sum.ensures
    (c.lt.ensures ∙ g.met.T.Signed.lt_law _ _ ∙ ap (lt_z (g.T.Signed.whole c.args.a)) first)
    (c.lt-2.ensures ∙ g.met.T.Signed.lt_law _ _ ∙ ap (lt_z (g.T.Signed.whole c.args.b)) second)
    (c.lt-negative.ensures ∙ g.met.T.Signed.lt_law _ _ ∙ ap (lt_z (g.T.Signed.whole c.wrapping_add-sum.result)) wraps))
    c.if-lt-negative.true

pub returns-else-lt-negative : goal.returns-else-lt-negative
returns-else-lt-negative g c =
    let first = ap g.T.Signed.whole c.ZERO-2.ensures ∙ g.met.T.Signed.zero_law in
    let second = ap g.T.Signed.whole c.ZERO-3.ensures ∙ g.met.T.Signed.zero_law in
    let wraps = ap g.T.Signed.whole c.ZERO.ensures ∙ g.met.T.Signed.zero_law in
    fits_as_told g.T.Unsigned.Unsigned.bits
    (sum_told g.T.Unsigned.Unsigned.bits _ c.known.ensures _ g.met.T.Unsigned.Unsigned.some_bits_law c.known-2.ensures c.wrapping_add-sum.ensures
    (c.lt.ensures ∙ g.met.T.Signed.lt_law _ _ ∙ ap (lt_z (g.T.Signed.whole c.args.a)) first)
    (c.lt-2.ensures ∙ g.met.T.Signed.lt_law _ _ ∙ ap (lt_z (g.T.Signed.whole c.args.b)) second)
    (c.lt-negative.ensures ∙ g.met.T.Signed.lt_law _ _ ∙ ap (lt_z (g.T.Signed.whole c.wrapping_add-sum.result)) wraps))
    c.if-lt-negative.false
