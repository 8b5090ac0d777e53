use Rattle.theory_text.proofs.Rows.{row_00, row_c2, row_e0, row_e1, row_ed, row_ee, row_f0, row_f1, row_f4, gap, beyond}
use Rattle.text_read.proofs.Tested.{leads}
use native.Mathlib.Omega.{arith}
use Rattle.text_read.proofs.row_of.Goals as goal

pub returns-then-b-lt128 : goal.returns-then-b-lt128
returns-then-b-lt128 c = leads (omega arith) (row_00 c.if-b-lt128.true)

pub returns-then-b-lt194 : goal.returns-then-b-lt194
returns-then-b-lt194 c = leads (omega arith) (gap (omega arith) (omega arith))

pub returns-then-b-lt224 : goal.returns-then-b-lt224
returns-then-b-lt224 c = leads (omega arith) (row_c2 (omega arith) (omega arith))

pub returns-then-b-eq224 : goal.returns-then-b-eq224
returns-then-b-eq224 c = leads (omega arith) (row_e0 c.if-b-eq224.true)

pub returns-then-b-lt237 : goal.returns-then-b-lt237
returns-then-b-lt237 c = leads (omega arith) (row_e1 (omega arith) (omega arith))

pub returns-then-b-eq237 : goal.returns-then-b-eq237
returns-then-b-eq237 c = leads (omega arith) (row_ed c.if-b-eq237.true)

pub returns-then-b-lt240 : goal.returns-then-b-lt240
returns-then-b-lt240 c = leads (omega arith) (row_ee (omega arith) (omega arith))

pub returns-then-b-eq240 : goal.returns-then-b-eq240
returns-then-b-eq240 c = leads (omega arith) (row_f0 c.if-b-eq240.true)

pub returns-then-b-lt244 : goal.returns-then-b-lt244
returns-then-b-lt244 c = leads (omega arith) (row_f1 (omega arith) (omega arith))

pub returns-then-b-eq244 : goal.returns-then-b-eq244
returns-then-b-eq244 c = leads (omega arith) (row_f4 c.if-b-eq244.true)

pub returns : goal.returns
returns c = leads (omega arith) (beyond (omega arith))
