use mir.Facts.{to_z-of_z}
use Rattle.vstd_integers.proofs.Compare.{le_kept}
use Rattle.promisebook_i8.proofs.pb_i8_le.Goals as goal

pub returns : goal.returns
returns c =
    rw (c.compare.ensures, to_z-of_z c.ranges.x, to_z-of_z c.ranges.y, le_kept c.args.x c.args.y) at c.is_le.ensures
