use Rattle.theory_whole.specs.Division.{ediv}
use Rattle.unsigned_division.proofs.checked_div_euclid.Goals as goal

pub returns : goal.returns
unfolding ediv
returns g c = c.checked_div.ensures
