use Rattle.theory_answers.proofs.Flag.{flagged_outcome}
use Rattle.promisebook_slices.proofs.pb_bytes_len.Goals as goal

pub returns : goal.returns
returns c = flagged_outcome c.into.result.ok c.len.result c.len.ensures c.into.ensures
