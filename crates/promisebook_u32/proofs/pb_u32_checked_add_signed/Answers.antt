use mathlib.Core.Path.{refl, ◌∙◌}
use lib.IntN.{pos}
use mir.Syntax.{w32}
use mir.Facts.{to_z-of_z}
use Rattle.theory_answers.proofs.Flag.{flagged_answers}
use Rattle.theory_machine.proofs.Bits.{in_signed}
use Rattle.vstd_integers.proofs.Unsigned.{checked_add_signed_kept}
use Rattle.promisebook_u32.proofs.pb_u32_checked_add_signed.Goals as goal

pub returns : goal.returns
returns c =
    let f = c.ranges in
    let e = rw (to_z-of_z f.y) at c.checked_add_signed.ensures in
    flagged_answers pos refl _ _ _ _ (e ∙ checked_add_signed_kept 32 f.x.fits (in_signed w32 f.y)) c.into.ensures
