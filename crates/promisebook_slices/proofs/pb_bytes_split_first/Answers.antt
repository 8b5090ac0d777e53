use Rattle.theory_answers.proofs.Flag.{matched_outcome}
use Rattle.vstd_slices.proofs.Promised.{split_first_promised}
use Rattle.promisebook_slices.proofs.pb_bytes_split_first.Goals as goal

pub returns : goal.returns
returns c = split_first_promised (matched_outcome c.into.result.ok _ c.split_first.result c.split_first.ensures c.into.ensures)
