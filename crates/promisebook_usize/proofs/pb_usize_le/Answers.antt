use lib.IntN.{pos}
use Rattle.vstd_integers.proofs.Compare.{le_kept}
use Rattle.promisebook_usize.proofs.pb_usize_le.Goals as goal

pub returns : goal.returns
returns c =
    let a = c.args in
    rw (c.compare.ensures, le_kept (pos a.x) (pos a.y)) at c.is_le.ensures
