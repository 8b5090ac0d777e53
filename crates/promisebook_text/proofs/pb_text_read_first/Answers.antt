use Prim.Native.Nat.{ℕ}
use Rattle.theory_lists.specs.Part.{part, Within}
use Rattle.theory_text.specs.Text.{Begins}
use Rattle.text_read.proofs.Answered.{reads_flagged}
use Rattle.vstd_text.proofs.Promised.{read_first_promised}
use Rattle.promisebook_text.proofs.pb_text_read_first.Goals as goal

pub returns : goal.returns
returns c =
    let a = c.args in
    let r = c.into.result in
    read_first_promised a.s.now a.from a.to
    (reads_flagged (λ (c : ℕ). Within a.from a.to a.s.now × Begins c (part a.from a.to a.s.now)) r.ok r.value r.length c.read_first.result c.read_first.ensures c.into.ensures)
