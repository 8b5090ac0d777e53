use Rattle.vstd_slices.proofs.Promised.{reverse_promised}
use Rattle.promisebook_slices.proofs.pb_bytes_reverse.Goals as goal

pub returns : goal.returns
returns c = reverse_promised c.reverse.ensures
