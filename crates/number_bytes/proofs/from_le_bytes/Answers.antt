use mathlib.Core.Path.{sym, ◌∙◌}
use Prim.Native.Nat.{ℕ, ◌/◌}
use lib.IntN.{pos}
use Rattle.theory_answers.proofs.Answer.{some_answer, no_answer}
use Rattle.theory_digits.proofs.Reading.{number_read, number_refused}
use Rattle.number_bytes.proofs.Steps.{all_read}
use Rattle.number_bytes.proofs.from_le_bytes.Goals as goal

pub returns-then-s-size : goal.returns-then-s-size
returns-then-s-size g c =
    let l = c.if-s-size.true ∙ c.size.ensures in
    let bytes = λ (k : ℕ). (c.type_inv.s k).fits in
    let value = c.truncated.ensures ∙ rw c.joined.ensures (all_read g.T.Unsigned.bits g.met.T.Unsigned.bytes_law c.args.s.now l bytes) in
    some_answer _ _ (number_read 256 (g.T.Unsigned.bits / 8) c.args.s.now l value)

pub returns-else-s-size : goal.returns-else-s-size
returns-else-s-size g c =
    no_answer (pos 0) _ (number_refused 256 (g.T.Unsigned.bits / 8) c.args.s.now (λ l. c.if-s-size.false (l ∙ sym c.size.ensures)))
