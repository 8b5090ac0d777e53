use mathlib.Core.Path.{sym, ◌∙◌}
use Prim.Native.Nat.{ℕ, ◌/◌}
use lib.IntN.{pos}
use Rattle.theory_answers.proofs.Answer.{some_answer, no_answer}
use Rattle.theory_digits.proofs.Reading.{number_high_read, number_high_refused}
use Rattle.number_bytes.proofs.Steps.{all_turned}
use Rattle.number_bytes.proofs.from_be_bytes.Goals as goal

pub returns-then-s-size : goal.returns-then-s-size
returns-then-s-size g c =
    let l = c.if-s-size.true ∙ c.size.ensures in
    let bytes = λ (k : ℕ). (c.type_inv.s k).fits in
    let turned = rw l at c.turned.ensures in
    let value = c.truncated.ensures ∙ rw turned (all_turned g.T.Unsigned.bits g.met.T.Unsigned.bytes_law c.joined.result) in
    some_answer _ _ (number_high_read 256 (g.T.Unsigned.bits / 8) c.args.s.now l bytes c.joined.ensures value)

pub returns-else-s-size : goal.returns-else-s-size
returns-else-s-size g c =
    no_answer (pos 0) _ (number_high_refused 256 (g.T.Unsigned.bits / 8) c.args.s.now (λ l. c.if-s-size.false (l ∙ sym c.size.ensures)))
