use lib.IntN.{pos}
use Rattle.vstd_integers.proofs.Compare.{ne_kept}
use Rattle.promisebook_u16.proofs.pb_u16_ne.Goals as goal

pub returns : goal.returns
returns c =
    let a = c.args in
    rw (c.compare.ensures, ne_kept (pos a.x) (pos a.y)) at c.is_ne.ensures
