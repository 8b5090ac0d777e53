use mathlib.Core.Path.{◌≡◌}
use Rattle.theory_lists.specs.Written.{written}
use Rattle.theory_text.specs.Scalar.{form}
use Rattle.theory_answers.proofs.Flag.{flagged_left}
use Rattle.vstd_text.proofs.Promised.{write_promised}
use Rattle.promisebook_text.proofs.pb_text_write.Goals as goal

pub returns : goal.returns
returns c =
    let a = c.args in
    let w = c.write in
    write_promised a.out.now a.at a.c
    (flagged_left c.into.result.ok (w.new.out ≡ written a.out.now a.at (form a.c)) (w.new.out ≡ a.out.now) w.result w.ensures.answer w.ensures.left c.into.ensures)
