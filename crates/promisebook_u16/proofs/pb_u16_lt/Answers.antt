use lib.IntN.{pos}
use Rattle.vstd_integers.proofs.Compare.{lt_kept}
use Rattle.promisebook_u16.proofs.pb_u16_lt.Goals as goal

pub returns : goal.returns
returns c =
    let a = c.args in
    rw (c.compare.ensures, lt_kept (pos a.x) (pos a.y)) at c.is_lt.ensures
