use mir.Facts.{to_z-of_z}
use Rattle.theory_machine.proofs.Orders.{number_read}
use Rattle.vstd_integers.specs.Compare.{cmp}
use Rattle.vstd_integers.proofs.Compare.{cmp_kept}
use Rattle.promisebook_i32.proofs.pb_i32_partial_cmp.Goals as goal

pub returns : goal.returns
returns c =
    rw (c.number.ensures, c.compare.ensures, to_z-of_z c.ranges.x, to_z-of_z c.ranges.y, cmp_kept c.args.x c.args.y, number_read (cmp c.args.x c.args.y)) at c.into.ensures
