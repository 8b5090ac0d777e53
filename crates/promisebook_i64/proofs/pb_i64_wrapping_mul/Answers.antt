use mathlib.Core.Path.{◌∙◌}
use mir.Syntax.{w64}
use mir.Facts.{to_z-of_z}
use Rattle.theory_machine.proofs.Bits.{some_bits, in_signed, read_back}
use Rattle.vstd_integers.proofs.Signed.{wrapping_mul_kept}
use Rattle.promisebook_i64.proofs.pb_i64_wrapping_mul.Goals as goal

pub returns : goal.returns
returns c =
    let f = c.ranges in
    let e = rw (to_z-of_z f.x, to_z-of_z f.y) at c.wrapping_mul.ensures in
    read_back w64 _ e ∙ e ∙ wrapping_mul_kept 64 (some_bits w64) (in_signed w64 f.x) (in_signed w64 f.y)
