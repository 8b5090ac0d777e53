use mir.Facts.{to_z-of_z}
use Rattle.vstd_integers.proofs.Compare.{eq_kept}
use Rattle.promisebook_i16.proofs.pb_i16_eq.Goals as goal

pub returns : goal.returns
returns c =
    rw (c.compare.ensures, to_z-of_z c.ranges.x, to_z-of_z c.ranges.y, eq_kept c.args.x c.args.y) at c.is_eq.ensures
