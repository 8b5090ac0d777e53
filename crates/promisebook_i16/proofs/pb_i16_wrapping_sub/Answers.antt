use mathlib.Core.Path.{◌∙◌}
use mir.Syntax.{w16}
use mir.Facts.{to_z-of_z}
use Rattle.theory_machine.proofs.Bits.{some_bits, in_signed, read_back}
use Rattle.vstd_integers.proofs.Signed.{wrapping_sub_kept}
use Rattle.promisebook_i16.proofs.pb_i16_wrapping_sub.Goals as goal

pub returns : goal.returns
returns c =
    let f = c.ranges in
    let e = rw (to_z-of_z f.x, to_z-of_z f.y) at c.wrapping_sub.ensures in
    read_back w16 _ e ∙ e ∙ wrapping_sub_kept 16 (some_bits w16) (in_signed w16 f.x) (in_signed w16 f.y)
