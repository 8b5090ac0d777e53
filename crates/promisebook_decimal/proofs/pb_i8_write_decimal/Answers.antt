use mir.Syntax.{w8}
use mir.Facts.{to_z-of_z}
use Rattle.theory_decimal.proofs.Showing.{flagged_shows}
use Rattle.promisebook_decimal.proofs.pb_i8_write_decimal.Goals as goal

pub returns : goal.returns
returns c =
    let written = rw (to_z-of_z {w = w8} c.ranges.x) at c.write_signed.ensures in
    flagged_shows _ _ c.write_signed.result _ _ _ _ written c.into.ensures
