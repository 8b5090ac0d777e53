use mathlib.Core.Path.{ap, sym, ◌∙◌}
use native.Mathlib.Nat.{mul_comm}
use lib.Pow.{pow_pos}
use Rattle.theory_answers.proofs.Says.{it_says, it_denies}
use Rattle.theory_answers.proofs.Answer.{some_answer, no_answer}
use Rattle.theory_whole.proofs.Products.{times_zero}
use Rattle.theory_whole.proofs.Unsigned.{natural_fits}
use Rattle.theory_whole.proofs.ByQuotient.{natural_quotient_is_factor, natural_quotient_is_other}
use Rattle.unsigned_sums.proofs.checked_mul.Goals as goal

pub returns-then-eq : goal.returns-then-eq
returns-then-eq g c =
    let u = g.met.T.Unsigned in
    let zero = ap g.T.Unsigned.whole c.ZERO.ensures ∙ u.zero_law in
    let nothing = it_says (u.eq_law c.args.a c.ZERO.result) c.if-eq.ensures ∙ zero in
    let answer = ap g.T.Unsigned.whole c.ZERO-then-eq.ensures ∙ u.zero_law in
    rw (answer, mul_comm (g.T.Unsigned.whole c.args.a) (g.T.Unsigned.whole c.args.b), times_zero (g.T.Unsigned.whole c.args.b) nothing)
    (some_answer _ _ (natural_fits g.T.Unsigned.bits (pow_pos g.T.Unsigned.bits)))

pub returns-then-eq-2 : goal.returns-then-eq-2
returns-then-eq-2 g c =
    let u = g.met.T.Unsigned in
    let zero = ap g.T.Unsigned.whole c.ZERO.ensures ∙ u.zero_law in
    let some = it_denies (u.eq_law c.args.a c.ZERO.result) c.if-eq.ensures in
    let same = it_says (u.eq_law c.div.result c.args.b) c.if-eq-2.ensures in
    some_answer _ _ (natural_quotient_is_factor g.T.Unsigned.bits _ _ _ (λ e. some (e ∙ sym zero)) c.wrapping_mul-product.ensures (sym (u.div_law _ _ _ c.div.ensures) ∙ same))

pub returns-else-eq-2 : goal.returns-else-eq-2
returns-else-eq-2 g c =
    let u = g.met.T.Unsigned in
    let zero = ap g.T.Unsigned.whole c.ZERO.ensures ∙ u.zero_law in
    let some = it_denies (u.eq_law c.args.a c.ZERO.result) c.if-eq.ensures in
    let other = it_denies (u.eq_law c.div.result c.args.b) c.if-eq-2.ensures in
    no_answer _ _ (natural_quotient_is_other g.T.Unsigned.bits _ _ _ (λ e. some (e ∙ sym zero)) c.wrapping_mul-product.ensures (λ e. other (u.div_law _ _ _ c.div.ensures ∙ e)))
