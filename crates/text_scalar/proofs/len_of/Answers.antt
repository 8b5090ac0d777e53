use mathlib.Core.Path.{sym}
use Rattle.theory_text.proofs.Sizes.{in_one, in_two, in_three, in_four, len_is}
use native.Mathlib.Omega.{arith}
use Rattle.text_scalar.proofs.len_of.Goals as goal

pub returns-in-0-to-127 : goal.returns-in-0-to-127
returns-in-0-to-127 c = sym (len_is (in_one (omega arith)))

pub returns-in-128-to-2047 : goal.returns-in-128-to-2047
returns-in-128-to-2047 c = sym (len_is (in_two (omega arith) (omega arith)))

pub returns-in-2048-to-65535 : goal.returns-in-2048-to-65535
returns-in-2048-to-65535 c = sym (len_is (in_three (omega arith) (omega arith)))

pub returns-in_default : goal.returns-in_default
returns-in_default c = sym (len_is (in_four (omega arith)))
