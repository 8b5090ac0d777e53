use Rattle.vstd_text.proofs.Promised.{valid_promised}
use Rattle.promisebook_text.proofs.pb_text_valid.Goals as goal

pub returns : goal.returns
returns c = valid_promised c.args.s.now c.valid.result c.valid.ensures
