use Rattle.vstd_text.proofs.Promised.{is_white_space_promised}
use Rattle.promisebook_text.proofs.pb_text_is_white_space.Goals as goal

pub returns : goal.returns
returns c = is_white_space_promised c.is_white_space.result c.args.c c.is_white_space.ensures
