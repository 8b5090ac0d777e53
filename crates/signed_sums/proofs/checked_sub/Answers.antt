use mathlib.Core.Path.{ap, ◌∙◌}
use lib.Signed.{lt_z}
use Rattle.theory_whole.proofs.Signed.{difference_told_by, fits_as_told, refused_as_told}
use Rattle.signed_sums.proofs.checked_sub.Goals as goal

pub returns-then-negative-lt : goal.returns-then-negative-lt
returns-then-negative-lt g c =
    let first = ap g.T.Signed.whole c.ZERO.ensures ∙ g.met.T.Signed.zero_law in
    let second = ap g.T.Signed.whole c.ZERO-2.ensures ∙ g.met.T.Signed.zero_law in
    let wraps = ap g.T.Signed.whole c.ZERO-3.ensures ∙ g.met.T.Signed.zero_law in
    refused_as_told g.T.Unsigned.Unsigned.bits
    (difference_told_by g.T.Unsigned.Unsigned.bits _ c.known.ensures _ g.met.T.Unsigned.Unsigned.some_bits_law c.known-2.ensures c.wrapping_sub-difference.ensures
    (c.lt-negative.ensures ∙ g.met.T.Signed.lt_law _ _ ∙ ap (lt_z (g.T.Signed.whole c.args.a)) first)
    (c.lt.ensures ∙ g.met.T.Signed.lt_law _ _ ∙ ap (lt_z (g.T.Signed.whole c.args.b)) second)
    (c.lt-2.ensures ∙ g.met.T.Signed.lt_law _ _ ∙ ap (lt_z (g.T.Signed.whole c.wrapping_sub-difference.result)) wraps))
    c.if-negative-lt.true

pub returns-else-negative-lt : goal.returns-else-negative-lt
returns-else-negative-lt g c =
    let first = ap g.T.Signed.whole c.ZERO.ensures ∙ g.met.T.Signed.zero_law in
    let second = ap g.T.Signed.whole c.ZERO-2.ensures ∙ g.met.T.Signed.zero_law in
    let wraps = ap g.T.Signed.whole c.ZERO-3.ensures ∙ g.met.T.Signed.zero_law in
    fits_as_told g.T.Unsigned.Unsigned.bits
    (difference_told_by g.T.Unsigned.Unsigned.bits _ c.known.ensures _ g.met.T.Unsigned.Unsigned.some_bits_law c.known-2.ensures c.wrapping_sub-difference.ensures
    (c.lt-negative.ensures ∙ g.met.T.Signed.lt_law _ _ ∙ ap (lt_z (g.T.Signed.whole c.args.a)) first)
    (c.lt.ensures ∙ g.met.T.Signed.lt_law _ _ ∙ ap (lt_z (g.T.Signed.whole c.args.b)) second)
    (c.lt-2.ensures ∙ g.met.T.Signed.lt_law _ _ ∙ ap (lt_z (g.T.Signed.whole c.wrapping_sub-difference.result)) wraps))
    c.if-negative-lt.false
