use Rattle.theory_text.specs.WhiteSpace.{white_space}
use Rattle.theory_text.proofs.WhiteSpace.{one_of}
use native.Mathlib.Omega.{arith}
use Rattle.text_scalar.proofs.is_white_space.Goals as goal

-- in the order of the code: each range, and the single numbers beside it
pub returns-in-9-to-13 : goal.returns-in-9-to-13
returns-in-9-to-13 c = one_of white_space c.args.c (λ n. omega arith)

pub returns-in-9-to-13-2 : goal.returns-in-9-to-13-2
returns-in-9-to-13-2 c = one_of white_space c.args.c (λ n. omega arith)

pub returns-in-133 : goal.returns-in-133
returns-in-133 c = one_of white_space c.args.c (λ n. omega arith)

pub returns-in-8192-to-8202 : goal.returns-in-8192-to-8202
returns-in-8192-to-8202 c = one_of white_space c.args.c (λ n. omega arith)

pub returns-in-8232 : goal.returns-in-8232
returns-in-8232 c = one_of white_space c.args.c (λ n. omega arith)

pub returns-in-8232-2 : goal.returns-in-8232-2
returns-in-8232-2 c = one_of white_space c.args.c (λ n. omega arith)
