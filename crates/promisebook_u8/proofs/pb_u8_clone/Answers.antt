use Rattle.vstd_integers.proofs.Compare.{clone_kept}
use Rattle.promisebook_u8.proofs.pb_u8_clone.Goals as goal

pub returns : goal.returns
returns c = clone_kept _
