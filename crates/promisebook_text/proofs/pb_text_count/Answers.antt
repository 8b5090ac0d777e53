use Rattle.theory_answers.proofs.Flag.{flagged_outcome}
use Rattle.vstd_text.proofs.Promised.{count_promised}
use Rattle.promisebook_text.proofs.pb_text_count.Goals as goal

pub returns : goal.returns
returns c = count_promised c.args.s.now (flagged_outcome c.into.result.ok c.count.result c.count.ensures c.into.ensures)
