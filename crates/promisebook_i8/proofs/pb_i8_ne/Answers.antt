use mir.Facts.{to_z-of_z}
use Rattle.vstd_integers.proofs.Compare.{ne_kept}
use Rattle.promisebook_i8.proofs.pb_i8_ne.Goals as goal

pub returns : goal.returns
returns c =
    rw (c.compare.ensures, to_z-of_z c.ranges.x, to_z-of_z c.ranges.y, ne_kept c.args.x c.args.y) at c.is_ne.ensures
