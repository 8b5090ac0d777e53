use native.Mathlib.Omega.{arith}
use Rattle.theory_answers.proofs.Says.{it_says, it_denies}
use Rattle.theory_answers.proofs.Answer.{some_answer, no_answer}
use Rattle.theory_whole.proofs.Unsigned.{difference_fits, difference_under}
use Rattle.unsigned_sums.proofs.checked_sub.Goals as goal

pub returns-then-lt : goal.returns-then-lt
returns-then-lt g c =
    no_answer _ _ (difference_under g.T.Unsigned.bits (it_says (g.met.T.Unsigned.lt_law c.args.a c.args.b) c.if-lt.ensures))

pub returns-else-lt : goal.returns-else-lt
returns-else-lt g c =
    let fits = it_denies (g.met.T.Unsigned.lt_law c.args.a c.args.b) c.if-lt.ensures in
    rw (g.met.T.Unsigned.sub_law _ _ _ c.sub.ensures) (some_answer _ _ (difference_fits g.T.Unsigned.bits c.known.ensures (omega arith)))
