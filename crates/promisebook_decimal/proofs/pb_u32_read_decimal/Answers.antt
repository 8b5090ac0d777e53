use mathlib.Core.Path.{refl}
use lib.IntN.{pos}
use Rattle.theory_answers.proofs.Flag.{flagged_answers}
use Rattle.promisebook_decimal.proofs.pb_u32_read_decimal.Goals as goal

pub returns : goal.returns
returns c = flagged_answers pos refl _ _ _ _ c.read.ensures c.into.ensures
