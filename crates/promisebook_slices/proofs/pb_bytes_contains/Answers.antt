use Rattle.theory_answers.proofs.Flag.{flagged_tells}
use Rattle.promisebook_slices.proofs.pb_bytes_contains.Goals as goal

pub returns : goal.returns
returns c = flagged_tells c.into.result.ok _ c.contains.result c.contains.ensures c.into.ensures
