use Rattle.std.proofs.Common.{rules}
use Rattle.theory_lists.proofs.Lent.{lent_part}
use Rattle.slices_mut.proofs.put.Goals as goal

pub returns-in-Some : goal.returns-in-Some
returns-in-Some c =
    let a = c.args in
    record { asked = search rules; given = lent_part a.s.now a.from a.to c.copy.ensures (search rules) }
