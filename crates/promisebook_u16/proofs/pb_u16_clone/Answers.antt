use Rattle.vstd_integers.proofs.Compare.{clone_kept}
use Rattle.promisebook_u16.proofs.pb_u16_clone.Goals as goal

pub returns : goal.returns
returns c = clone_kept _
