use mathlib.Core.Path.{refl, ◌∙◌}
use mir.Syntax.{w64}
use mir.Facts.{to_z-of_z}
use Rattle.theory_answers.proofs.Flag.{flagged_answers}
use Rattle.theory_machine.proofs.Bits.{some_bits, in_signed}
use Rattle.vstd_integers.proofs.Signed.{checked_add_kept}
use Rattle.promisebook_i64.proofs.pb_i64_checked_add.Goals as goal

pub returns : goal.returns
returns c =
    let f = c.ranges in
    let e = rw (to_z-of_z f.x, to_z-of_z f.y) at c.checked_add.ensures in
    flagged_answers (λ z. z) refl _ _ _ _ (e ∙ checked_add_kept 64 (some_bits w64) (in_signed w64 f.x) (in_signed w64 f.y)) c.into.ensures
