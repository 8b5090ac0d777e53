use Rattle.vstd_integers.proofs.Compare.{clone_kept}
use Rattle.promisebook_u32.proofs.pb_u32_clone.Goals as goal

pub returns : goal.returns
returns c = clone_kept _
