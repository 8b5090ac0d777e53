use Rattle.vstd_slices.proofs.Promised.{copy_from_promised}
use Rattle.promisebook_slices.proofs.pb_bytes_copy_from.Goals as goal

pub returns : goal.returns
returns c = copy_from_promised c.copy_from.ensures
