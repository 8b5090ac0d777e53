use Rattle.theory_answers.proofs.Flag.{flagged_tells}
use Rattle.vstd_slices.proofs.Promised.{equal_promised}
use Rattle.promisebook_slices.proofs.pb_bytes_equal.Goals as goal

pub returns : goal.returns
returns c = equal_promised c.into.result.value c.args.other.now (flagged_tells c.into.result.ok _ c.equal.result c.equal.ensures c.into.ensures)
