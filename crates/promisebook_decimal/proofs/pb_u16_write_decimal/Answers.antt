use Rattle.theory_decimal.proofs.Showing.{flagged_shows}
use Rattle.promisebook_decimal.proofs.pb_u16_write_decimal.Goals as goal

pub returns : goal.returns
returns c = flagged_shows _ _ c.write.result _ _ _ _ c.write.ensures c.into.ensures
