use Rattle.theory_answers.proofs.Flag.{matched_outcome}
use Rattle.vstd_slices.proofs.Promised.{next_piece_promised}
use Rattle.promisebook_slices.proofs.pb_bytes_next_piece.Goals as goal

pub returns : goal.returns
returns c = next_piece_promised (matched_outcome c.into.result.ok _ c.next_piece.result c.next_piece.ensures c.into.ensures)
