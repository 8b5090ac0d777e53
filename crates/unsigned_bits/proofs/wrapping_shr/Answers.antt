use mathlib.Core.Path.{◌∙◌}
use Rattle.theory_whole.proofs.Unsigned.{wraps_quotient}
use Rattle.unsigned_bits.proofs.wrapping_shr.Goals as goal

pub returns : goal.returns
returns g c =
    let u = g.met.T.Unsigned in
    rw (u.shr_law _ _ _ c.shr.ensures, c.BITS.ensures ∙ u.bits_law) (wraps_quotient g.T.Unsigned.bits _ c.known.ensures)
