use Rattle.theory_answers.proofs.Flag.{matched_outcome}
use Rattle.vstd_slices.proofs.Promised.{split_at_promised}
use Rattle.promisebook_slices.proofs.pb_bytes_split_at.Goals as goal

pub returns : goal.returns
returns c = split_at_promised (matched_outcome c.into.result.ok _ c.split_at.result c.split_at.ensures c.into.ensures)
