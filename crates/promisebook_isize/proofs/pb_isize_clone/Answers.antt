use mathlib.Core.Path.{◌∙◌}
use mir.Facts.{to_z-of_z}
use Rattle.vstd_integers.proofs.Compare.{clone_kept}
use Rattle.promisebook_isize.proofs.pb_isize_clone.Goals as goal

pub returns : goal.returns
returns c = to_z-of_z c.ranges.x ∙ clone_kept _
