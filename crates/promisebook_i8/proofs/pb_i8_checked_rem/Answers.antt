use mathlib.Core.Path.{refl, ◌∙◌}
use mir.Syntax.{w8}
use mir.Facts.{to_z-of_z}
use Rattle.theory_answers.proofs.Flag.{flagged_answers}
use Rattle.theory_machine.proofs.Bits.{some_bits, in_signed}
use Rattle.vstd_integers.proofs.Signed.{checked_rem_kept}
use Rattle.promisebook_i8.proofs.pb_i8_checked_rem.Goals as goal

pub returns : goal.returns
returns c =
    let f = c.ranges in
    let e = rw (to_z-of_z f.x, to_z-of_z f.y) at c.checked_rem.ensures in
    flagged_answers (λ z. z) refl _ _ _ _ (e ∙ checked_rem_kept 8 (some_bits w8) (in_signed w8 f.x) (in_signed w8 f.y)) c.into.ensures
