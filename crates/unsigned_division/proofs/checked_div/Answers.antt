use mathlib.Core.Path.{ap, sym, ◌∙◌}
use Rattle.theory_answers.proofs.Says.{it_says, it_denies}
use Rattle.theory_answers.proofs.Answer.{some_answer, no_answer}
use Rattle.theory_whole.proofs.Unsigned.{division_refused, division_answers}
use Rattle.unsigned_division.proofs.checked_div.Goals as goal

pub returns-then-eq : goal.returns-then-eq
returns-then-eq g c =
    let u = g.met.T.Unsigned in
    let zero = ap g.T.Unsigned.whole c.ZERO.ensures ∙ u.zero_law in
    no_answer _ _ (division_refused g.T.Unsigned.bits (g.T.Unsigned.whole c.args.a) _ _ (it_says (u.eq_law c.args.b c.ZERO.result) c.if-eq.ensures ∙ zero))

pub returns-else-eq : goal.returns-else-eq
returns-else-eq g c =
    let u = g.met.T.Unsigned in
    let zero = ap g.T.Unsigned.whole c.ZERO.ensures ∙ u.zero_law in
    let some = it_denies (u.eq_law c.args.b c.ZERO.result) c.if-eq.ensures in
    rw (u.div_law _ _ _ c.div.ensures) (some_answer _ _ (division_answers g.T.Unsigned.bits (g.T.Unsigned.whole c.args.a) _ _ (λ e. some (e ∙ sym zero)) c.known.ensures))
