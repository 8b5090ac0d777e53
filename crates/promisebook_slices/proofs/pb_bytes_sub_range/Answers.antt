use Rattle.theory_answers.proofs.Flag.{matched_outcome}
use Rattle.vstd_slices.proofs.Promised.{sub_range_promised}
use Rattle.promisebook_slices.proofs.pb_bytes_sub_range.Goals as goal

pub returns : goal.returns
returns c = sub_range_promised (matched_outcome c.into.result.ok _ c.sub_range.result c.sub_range.ensures c.into.ensures)
