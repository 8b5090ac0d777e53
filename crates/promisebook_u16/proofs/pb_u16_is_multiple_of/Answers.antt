use mathlib.Core.Path.{◌∙◌}
use Rattle.vstd_integers.proofs.Unsigned.{is_multiple_of_kept}
use Rattle.promisebook_u16.proofs.pb_u16_is_multiple_of.Goals as goal

pub returns : goal.returns
returns c = let a = c.args in c.is_multiple_of.ensures ∙ is_multiple_of_kept a.x a.y
