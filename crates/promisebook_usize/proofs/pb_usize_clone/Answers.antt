use Rattle.vstd_integers.proofs.Compare.{clone_kept}
use Rattle.promisebook_usize.proofs.pb_usize_clone.Goals as goal

pub returns : goal.returns
returns c = clone_kept _
