use Rattle.vstd_slices.proofs.Promised.{set_promised}
use Rattle.promisebook_slices.proofs.pb_bytes_set.Goals as goal

pub returns : goal.returns
returns c = set_promised c.set.ensures
