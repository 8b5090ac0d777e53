use Rattle.vstd_number_bytes.proofs.Bytes.{to_le_bytes_is}
use Rattle.promisebook_number_bytes.proofs.pb_u16_to_le_bytes.Goals as goal

pub returns : goal.returns
returns c = rw to_le_bytes_is c.write_le_bytes.ensures
