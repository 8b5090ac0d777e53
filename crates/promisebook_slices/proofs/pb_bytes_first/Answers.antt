use Rattle.theory_answers.proofs.Flag.{flagged_outcome}
use Rattle.vstd_slices.proofs.Promised.{first_promised}
use Rattle.promisebook_slices.proofs.pb_bytes_first.Goals as goal

pub returns : goal.returns
returns c = first_promised (flagged_outcome c.into.result.ok c.first.result c.first.ensures c.into.ensures)
