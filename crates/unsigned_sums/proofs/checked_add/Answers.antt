use native.Mathlib.Omega.{arith}
use Rattle.theory_answers.proofs.Says.{it_says, it_denies}
use Rattle.theory_answers.proofs.Answer.{some_answer, no_answer}
use Rattle.theory_whole.proofs.Unsigned.{natural_fits, natural_over}
use Rattle.unsigned_sums.proofs.checked_add.Goals as goal

pub returns-then-lt : goal.returns-then-lt
returns-then-lt g c =
    let over = it_says (g.met.T.Unsigned.lt_law c.room.result c.args.b) c.if-lt.ensures in
    let room = c.room.ensures in
    no_answer _ _ (natural_over g.T.Unsigned.bits (omega arith))

pub returns-else-lt : goal.returns-else-lt
returns-else-lt g c =
    let fits = it_denies (g.met.T.Unsigned.lt_law c.room.result c.args.b) c.if-lt.ensures in
    let room = c.room.ensures in
    rw (g.met.T.Unsigned.add_law _ _ _ c.add.ensures) (some_answer _ _ (natural_fits g.T.Unsigned.bits (omega arith)))
