use mathlib.Core.Path.{refl}
use lib.IntN.{pos}
use Rattle.theory_answers.proofs.Flag.{flagged_answers}
use Rattle.promisebook_number_bytes.proofs.pb_u32_from_be_bytes.Goals as goal

pub returns : goal.returns
returns c = flagged_answers pos refl _ _ _ _ c.from_be_bytes.ensures c.into.ensures
