use mathlib.Core.Path.{refl, ◌∙◌}
use lib.IntN.{pos}
use Rattle.theory_answers.proofs.Flag.{flagged_answers}
use Rattle.vstd_integers.proofs.Unsigned.{checked_div_kept}
use Rattle.promisebook_usize.proofs.pb_usize_checked_div.Goals as goal

pub returns : goal.returns
returns c =
    let f = c.ranges in
    flagged_answers pos refl _ _ _ _ (c.checked_div.ensures ∙ checked_div_kept 64 f.x.fits f.y.fits) c.into.ensures
