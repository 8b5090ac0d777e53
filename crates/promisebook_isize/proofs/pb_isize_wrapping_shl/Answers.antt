use mathlib.Core.Path.{◌∙◌}
use mir.Syntax.{w64}
use mir.Facts.{to_z-of_z}
use Rattle.theory_machine.proofs.Bits.{some_bits, in_signed, read_back}
use Rattle.vstd_integers.proofs.Signed.{wrapping_shl_kept}
use Rattle.promisebook_isize.proofs.pb_isize_wrapping_shl.Goals as goal

pub returns : goal.returns
returns c =
    let f = c.ranges in
    let e = rw (to_z-of_z f.x) at c.wrapping_shl.ensures in
    read_back w64 _ e ∙ e ∙ wrapping_shl_kept 64 (some_bits w64) (in_signed w64 f.x) c.args.rhs
