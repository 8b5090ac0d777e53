use native.Mathlib.Omega.{arith}
use lib.IntN.{pos}
use Rattle.theory_answers.proofs.Answer.{some_answer, no_answer}
use Rattle.theory_decimal.proofs.Reading.{other_below, other_above, figure_over, figure_fits}
use Rattle.decimal_read.proofs.pushed.Goals as goal

pub returns-in_default : goal.returns-in_default
returns-in_default c = no_answer (pos 0) _ (other_below 64 _ _ (omega arith))

pub returns-in_default-2 : goal.returns-in_default-2
returns-in_default-2 c = no_answer (pos 0) _ (other_above 64 _ _ (omega arith))

pub returns-then-n : goal.returns-then-n
returns-then-n c = no_answer (pos 0) _ (figure_over 64 _ _ (omega arith) (omega arith) (omega arith))

pub returns-then-tens-digit : goal.returns-then-tens-digit
returns-then-tens-digit c = no_answer (pos 0) _ (figure_over 64 _ _ (omega arith) (omega arith) (omega arith))

pub returns : goal.returns
returns c = some_answer _ _ (figure_fits 64 _ _ (omega arith) (omega arith) _ (omega arith) (omega arith))
