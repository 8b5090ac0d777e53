use Rattle.theory_whole.specs.Division.{ediv, ◌modulo◌}
use Rattle.unsigned_division.proofs.checked_rem_euclid.Goals as goal

pub returns : goal.returns
unfolding ediv ◌modulo◌
returns g c = c.checked_rem.ensures
