use mathlib.Core.Path.{refl, ◌∙◌}
use lib.IntN.{pos}
use Rattle.theory_answers.proofs.Flag.{flagged_answers}
use Rattle.vstd_integers.proofs.Unsigned.{checked_rem_kept}
use Rattle.promisebook_u8.proofs.pb_u8_checked_rem.Goals as goal

pub returns : goal.returns
returns c =
    let f = c.ranges in
    flagged_answers pos refl _ _ _ _ (c.checked_rem.ensures ∙ checked_rem_kept 8 f.x.fits f.y.fits) c.into.ensures
