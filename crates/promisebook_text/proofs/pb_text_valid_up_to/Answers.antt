use Rattle.vstd_text.proofs.Promised.{valid_up_to_promised}
use Rattle.promisebook_text.proofs.pb_text_valid_up_to.Goals as goal

pub returns : goal.returns
returns c = valid_up_to_promised c.args.s.now c.valid_up_to.result c.valid_up_to.ensures
