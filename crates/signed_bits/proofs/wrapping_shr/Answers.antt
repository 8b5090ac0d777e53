use mathlib.Core.Path.{◌∙◌}
use Rattle.theory_whole.proofs.Signed.{wraps_shifted}
use Rattle.signed_bits.proofs.wrapping_shr.Goals as goal

pub returns : goal.returns
returns g c =
    rw (g.met.T.Signed.shr_law _ _ _ c.shr.ensures, c.BITS.ensures ∙ g.met.T.Unsigned.Unsigned.bits_law) (wraps_shifted g.T.Unsigned.Unsigned.bits _ _ c.known.ensures)
