use mathlib.Core.Path.{ap, sym, ◌∙◌}
use Rattle.theory_answers.proofs.Says.{it_says, it_denies}
use Rattle.theory_answers.proofs.Answer.{some_answer, no_answer}
use Rattle.theory_whole.proofs.Multiples.{next_at, next_after}
use Rattle.theory_whole.proofs.Unsigned.{by_zero_refused, by_other, natural_fits}
use Rattle.unsigned_division.proofs.checked_next_multiple_of.Goals as goal

pub returns-then-eq : goal.returns-then-eq
returns-then-eq g c =
    let u = g.met.T.Unsigned in
    let zero = ap g.T.Unsigned.whole c.ZERO.ensures ∙ u.zero_law in
    no_answer _ _ (by_zero_refused _ (it_says (u.eq_law c.args.b c.ZERO.result) c.if-eq.ensures ∙ zero))

pub returns-then-eq-2 : goal.returns-then-eq-2
returns-then-eq-2 g c =
    let u = g.met.T.Unsigned in
    let zero = ap g.T.Unsigned.whole c.ZERO.ensures ∙ u.zero_law in
    let zero_again = ap g.T.Unsigned.whole c.ZERO-2.ensures ∙ u.zero_law in
    let some = it_denies (u.eq_law c.args.b c.ZERO.result) c.if-eq.ensures in
    let past = sym (u.rem_law _ _ _ c.rem-past.ensures) ∙ it_says (u.eq_law c.rem-past.result c.ZERO-2.result) c.if-eq-2.ensures ∙ zero_again in
    rw (by_other {b = g.T.Unsigned.whole c.args.b} _ (λ e. some (e ∙ sym zero)), next_at (g.T.Unsigned.whole c.args.a) (g.T.Unsigned.whole c.args.b) past)
    (some_answer _ _ (natural_fits g.T.Unsigned.bits c.known.ensures))

pub returns-else-eq-2 : goal.returns-else-eq-2
returns-else-eq-2 g c =
    let u = g.met.T.Unsigned in
    let zero = ap g.T.Unsigned.whole c.ZERO.ensures ∙ u.zero_law in
    let zero_again = ap g.T.Unsigned.whole c.ZERO-2.ensures ∙ u.zero_law in
    let some = it_denies (u.eq_law c.args.b c.ZERO.result) c.if-eq.ensures in
    let rest = u.rem_law _ _ _ c.rem-past.ensures in
    let past = it_denies (u.eq_law c.rem-past.result c.ZERO-2.result) c.if-eq-2.ensures in
    let more = u.sub_law _ _ _ c.sub.ensures in
    rw (
      by_other {b = g.T.Unsigned.whole c.args.b} _ (λ e. some (e ∙ sym zero)),
      next_after (g.T.Unsigned.whole c.args.a) (g.T.Unsigned.whole c.args.b) (λ e. past (rest ∙ e ∙ sym zero_again)),
      ← rest,
      ← more,
    ) c.checked_add.ensures
