use lib.IntN.{pos}
use Rattle.theory_machine.proofs.Orders.{number_read}
use Rattle.vstd_integers.specs.Compare.{cmp}
use Rattle.vstd_integers.proofs.Compare.{cmp_kept}
use Rattle.promisebook_u32.proofs.pb_u32_partial_cmp.Goals as goal

pub returns : goal.returns
returns c =
    let a = c.args in
    rw (c.number.ensures, c.compare.ensures, cmp_kept (pos a.x) (pos a.y), number_read (cmp (pos a.x) (pos a.y))) at c.into.ensures
