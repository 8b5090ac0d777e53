use mathlib.Core.Path.{refl, sym, ◌∙◌}
use mathlib.Core.Logic.{⊎_elim}
use native.Mathlib.Omega.{arith}
use lib.IntN.{pos}
use Rattle.theory_whole.specs.Kind.{signed}
use Rattle.theory_answers.proofs.Answer.{answer, refusal, no_answer}
use Rattle.theory_decimal.proofs.Reading.{past_the_end, no_text, no_whole}
use Rattle.theory_decimal.proofs.Signs.{negative_refused, negative_read, positive_refused, positive_read}
use Rattle.decimal_read_signed.proofs.read.Goals as goal

pub returns-then-s-to : goal.returns-then-s-to
returns-then-s-to g c =
    let k = signed g.T.Unsigned.Unsigned.bits in
    no_answer (pos 0) _ (⊎_elim (λ h. past_the_end _ k _ _ _ h) (λ h. no_text _ k _ _ _ no_whole h.0 h.1) c.then-s-to.either)

pub returns-in_err-read : goal.returns-in_err-read
returns-in_err-read g c =
    let refused = refusal _ (sym c.in_err-read.ensures) in
    rw c.from_residual.ensures
    (no_answer (pos 0) _ (negative_refused g.T.Unsigned.Unsigned.bits _ _ _ (omega arith) (omega arith) _ 0 refused c.if-s-from-eq45.true refl))

pub returns-in_err-read-2 : goal.returns-in_err-read-2
returns-in_err-read-2 g c =
    let refused = refusal _ (sym c.in_err-read-2.ensures) in
    rw c.from_residual-in_err-read-2.ensures
    (no_answer (pos 0) _ (positive_refused g.T.Unsigned.Unsigned.bits _ _ _ (omega arith) (omega arith) _ 0 refused c.if-s-from-eq45.false refl))

pub returns-in_ok-read : goal.returns-in_ok-read
returns-in_ok-read g c =
    let read = answer _ _ (sym c.in_ok-read.ensures) in
    c.with_sign.ensures
    ∙ sym (negative_read g.T.Unsigned.Unsigned.bits _ _ _ (omega arith) (omega arith) _ _ read c.if-s-from-eq45.true refl)

pub returns-in_ok-read-2 : goal.returns-in_ok-read-2
returns-in_ok-read-2 g c =
    let read = answer _ _ (sym c.in_ok-read-2.ensures) in
    c.with_sign-else-s-from-eq45.ensures
    ∙ sym (positive_read g.T.Unsigned.Unsigned.bits _ _ _ (omega arith) (omega arith) _ _ read c.if-s-from-eq45.false refl)
