use lib.IntN.{pos}
use Rattle.vstd_integers.proofs.Compare.{eq_kept}
use Rattle.promisebook_u64.proofs.pb_u64_eq.Goals as goal

pub returns : goal.returns
returns c =
    let a = c.args in
    rw (c.compare.ensures, eq_kept (pos a.x) (pos a.y)) at c.is_eq.ensures
