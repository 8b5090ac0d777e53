use mir.Facts.{to_z-of_z}
use Rattle.vstd_integers.proofs.Compare.{lt_kept}
use Rattle.promisebook_isize.proofs.pb_isize_lt.Goals as goal

pub returns : goal.returns
returns c =
    rw (c.compare.ensures, to_z-of_z c.ranges.x, to_z-of_z c.ranges.y, lt_kept c.args.x c.args.y) at c.is_lt.ensures
