use mathlib.Core.Path.{refl}
use lib.Dec.{lit≤}
use lib.IntN.{pos}
use Rattle.theory_answers.proofs.Flag.{flagged_answers}
use Rattle.vstd_number_bytes.proofs.Bytes.{from_le_bytes_kept}
use Rattle.promisebook_number_bytes.proofs.pb_u32_from_le_bytes.Goals as goal

pub returns : goal.returns
returns c =
    flagged_answers pos refl _ _ _ _
    (rw (from_le_bytes_kept 32 3 _ (lit≤ tt) (λ i. (c.type_inv.s i).fits)) at c.from_le_bytes.ensures)
    c.into.ensures
