use Rattle.theory_answers.proofs.Flag.{flagged_tells}
use Rattle.vstd_slices.proofs.Promised.{starts_with_promised}
use Rattle.promisebook_slices.proofs.pb_bytes_starts_with.Goals as goal

pub returns : goal.returns
returns c = starts_with_promised c.into.result.value c.args.needle.now (flagged_tells c.into.result.ok _ c.starts_with.result c.starts_with.ensures c.into.ensures)
