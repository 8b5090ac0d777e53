use Rattle.theory_answers.proofs.Flag.{flagged_outcome}
use Rattle.vstd_slices.proofs.Promised.{get_promised}
use Rattle.promisebook_slices.proofs.pb_bytes_get.Goals as goal

pub returns : goal.returns
returns c = get_promised (flagged_outcome c.into.result.ok c.get.result c.get.ensures c.into.ensures)
