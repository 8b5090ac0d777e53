use Rattle.vstd_text.proofs.Promised.{is_ascii_promised}
use Rattle.promisebook_text.proofs.pb_text_is_ascii.Goals as goal

pub returns : goal.returns
returns c = is_ascii_promised c.args.s.now c.is_ascii.result c.is_ascii.ensures
