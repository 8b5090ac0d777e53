use Rattle.theory_answers.proofs.Flag.{flagged_tells}
use Rattle.theory_text.specs.Boundary.{Boundary}
use Rattle.vstd_text.proofs.Promised.{is_boundary_promised}
use Rattle.promisebook_text.proofs.pb_text_is_boundary.Goals as goal

pub returns : goal.returns
returns c =
    let a = c.args in
    is_boundary_promised a.s.now c.into.result.value a.at
    (flagged_tells c.into.result.ok (Boundary a.s.now a.at) c.is_boundary.result c.is_boundary.ensures c.into.ensures)
