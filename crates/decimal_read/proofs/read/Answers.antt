use mathlib.Core.Path.{refl, sym, ap, ◌∙◌}
use native.Mathlib.Omega.{arith}
use lib.IntN.{pos}
use Prim.Native.Nat.{ℕ}
use Rattle.theory_whole.specs.Kind.{unsigned}
use Rattle.theory_whole.specs.Fit.{refuse}
use Rattle.theory_answers.proofs.Answer.{answer, refusal, no_answer}
use Rattle.theory_decimal.proofs.Narrower.{narrower, narrow_refused}
use Rattle.decimal_read.proofs.read.Goals as goal

pub returns-in_err-n : goal.returns-in_err-n
returns-in_err-n g c =
    let refused = refusal _ (sym c.in_err-n.ensures) in
    rw c.from_residual.ensures
    (no_answer (pos 0) _ (narrow_refused g.T.Unsigned.bits 64 g.met.T.Unsigned.most_bits_law _ _ _ _ 0 refused refl))

pub returns : goal.returns
returns g c =
    let read = answer _ _ (sym c.in_ok-n.ensures) in
    c.from_u64.ensures ∙ ap (λ (k : ℕ). refuse (unsigned g.T.Unsigned.bits) (pos k)) (omega arith) ∙ sym (narrower g.T.Unsigned.bits 64 g.met.T.Unsigned.most_bits_law _ _ _ _ _ read refl)
