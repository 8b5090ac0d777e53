use Rattle.vstd_slices.proofs.Promised.{copy_within_promised}
use Rattle.promisebook_slices.proofs.pb_bytes_copy_within.Goals as goal

pub returns : goal.returns
returns c = copy_within_promised c.copy_within.ensures
