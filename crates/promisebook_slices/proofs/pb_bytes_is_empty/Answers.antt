use Rattle.theory_answers.proofs.Flag.{flagged_tells}
use Rattle.promisebook_slices.proofs.pb_bytes_is_empty.Goals as goal

pub returns : goal.returns
returns c = flagged_tells c.into.result.ok _ c.is_empty.result c.is_empty.ensures c.into.ensures
