use mathlib.Core.Path.{◌∙◌}
use Rattle.theory_whole.proofs.Unsigned.{wraps_remainder}
use Rattle.unsigned_bits.proofs.wrapping_shl.Goals as goal

pub returns : goal.returns
returns g c =
    let u = g.met.T.Unsigned in
    rw (u.shl_law _ _ _ c.shl.ensures, c.BITS.ensures ∙ u.bits_law) (wraps_remainder g.T.Unsigned.bits _)
