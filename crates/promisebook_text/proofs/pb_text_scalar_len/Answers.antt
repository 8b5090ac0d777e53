use Rattle.theory_answers.proofs.Flag.{flagged_outcome}
use Rattle.vstd_text.proofs.Promised.{scalar_len_promised}
use Rattle.promisebook_text.proofs.pb_text_scalar_len.Goals as goal

pub returns : goal.returns
returns c = scalar_len_promised c.args.c (flagged_outcome c.into.result.ok c.scalar_len.result c.scalar_len.ensures c.into.ensures)
