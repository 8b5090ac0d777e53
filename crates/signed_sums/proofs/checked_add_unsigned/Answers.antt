use mathlib.Core.Path.{◌∙◌}
use Rattle.theory_whole.proofs.Signed.{unsigned_sum_told, fits_as_told, refused_as_told}
use Rattle.signed_sums.proofs.checked_add_unsigned.Goals as goal

pub returns-then-lt : goal.returns-then-lt
returns-then-lt g c =
    refused_as_told g.T.Unsigned.Unsigned.bits (unsigned_sum_told g.T.Unsigned.Unsigned.bits _ c.known.ensures c.known-2.ensures c.wrapping_add_unsigned-more.ensures (c.lt.ensures ∙ g.met.T.Signed.lt_law _ _)) c.if-lt.true

pub returns-else-lt : goal.returns-else-lt
returns-else-lt g c =
    fits_as_told g.T.Unsigned.Unsigned.bits (unsigned_sum_told g.T.Unsigned.Unsigned.bits _ c.known.ensures c.known-2.ensures c.wrapping_add_unsigned-more.ensures (c.lt.ensures ∙ g.met.T.Signed.lt_law _ _)) c.if-lt.false
