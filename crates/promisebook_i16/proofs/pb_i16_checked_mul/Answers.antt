use mathlib.Core.Path.{refl, ◌∙◌}
use mir.Syntax.{w16}
use mir.Facts.{to_z-of_z}
use Rattle.theory_answers.proofs.Flag.{flagged_answers}
use Rattle.theory_machine.proofs.Bits.{some_bits, in_signed}
use Rattle.vstd_integers.proofs.Signed.{checked_mul_kept}
use Rattle.promisebook_i16.proofs.pb_i16_checked_mul.Goals as goal

pub returns : goal.returns
returns c =
    let f = c.ranges in
    let e = rw (to_z-of_z f.x, to_z-of_z f.y) at c.checked_mul.ensures in
    flagged_answers (λ z. z) refl _ _ _ _ (e ∙ checked_mul_kept 16 (some_bits w16) (in_signed w16 f.x) (in_signed w16 f.y)) c.into.ensures
