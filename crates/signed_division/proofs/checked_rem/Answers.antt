use lib.Signed.{rem_z}
use Rattle.theory_whole.proofs.Signed.{divisible, truncated_answers, truncated_refused}
use Rattle.signed_division.proofs.checked_rem.Goals as goal

pub returns-then-divides : goal.returns-then-divides
returns-then-divides g c =
    truncated_answers g.T.Unsigned.Unsigned.bits (divisible g.T.Unsigned.Unsigned.bits (g.T.Signed.whole c.args.a) (g.T.Signed.whole c.args.b) c.divides.ensures c.if-divides.true)
    (rem_z (g.T.Signed.whole c.args.a) (g.T.Signed.whole c.args.b)) (g.met.T.Signed.rem_law _ _ _ c.rem.ensures)

pub returns-else-divides : goal.returns-else-divides
returns-else-divides g c = truncated_refused g.T.Unsigned.Unsigned.bits (g.T.Signed.whole c.args.a) (g.T.Signed.whole c.args.b) c.divides.ensures c.if-divides.false _
