use Rattle.theory_answers.proofs.Flag.{flagged_outcome}
use Rattle.vstd_slices.proofs.Promised.{last_promised}
use Rattle.promisebook_slices.proofs.pb_bytes_last.Goals as goal

pub returns : goal.returns
returns c = last_promised (flagged_outcome c.into.result.ok c.last.result c.last.ensures c.into.ensures)
