use mathlib.Core.Path.{refl, ◌∙◌}
use lib.IntN.{pos}
use Rattle.theory_answers.proofs.Flag.{flagged_answers}
use Rattle.vstd_integers.proofs.Unsigned.{checked_add_kept}
use Rattle.promisebook_u64.proofs.pb_u64_checked_add.Goals as goal

pub returns : goal.returns
returns c =
    let f = c.ranges in
    flagged_answers pos refl _ _ _ _ (c.checked_add.ensures ∙ checked_add_kept 64 f.x.fits f.y.fits) c.into.ensures
