use Rattle.theory_lists.proofs.Between.{is_between, not_below, not_above}
use Rattle.text_read.proofs.Tested.{second_out, two, third_out, three, fourth_out, all_four, tested, none_tested, some_tested}
use native.Mathlib.Omega.{arith}
use Rattle.text_read.proofs.length_of.Goals as goal
use Rattle.text_read.proofs.length_of.Goals.{then-b1-row-via-then-b1-row, then-b1-row-via-else-b1-row+then-row-b1}

pub returns-then-b1-row : goal.returns-then-b1-row
returns-then-b1-row c =
    let a = c.args in
    let r = c.row_of-row in
    let l = r.result in
    none_tested (tested _ _ _ r.ensures (second_out l.low l.high a.b1 a.b2 a.b3 l.bytes (omega arith)
    (elim c.then-b1-row.branch [
      | then-b1-row-via-then-b1-row w ↦ not_below l.low l.high a.b1 w.if-b1-row.true
      | then-b1-row-via-else-b1-row+then-row-b1 w ↦ not_above l.low l.high a.b1 w.if-row-b1.true
    ])))

pub returns-then-n-eq2 : goal.returns-then-n-eq2
returns-then-n-eq2 c =
    let a = c.args in
    let r = c.row_of-row in
    let l = r.result in
    some_tested 2 (omega arith) (tested _ _ _ r.ensures (two l.low l.high a.b1 a.b2 a.b3
    (is_between l.low l.high a.b1 (omega arith) (omega arith)) l.bytes (omega arith)))

pub returns-then-b2-ne2 : goal.returns-then-b2-ne2
returns-then-b2-ne2 c =
    let a = c.args in
    let r = c.row_of-row in
    let l = r.result in
    none_tested (tested _ _ _ r.ensures (third_out l.low l.high a.b1 a.b2 a.b3
    (is_between l.low l.high a.b1 (omega arith) (omega arith)) l.bytes (omega arith) c.if-b2-ne2.true))

pub returns-then-n-eq3 : goal.returns-then-n-eq3
returns-then-n-eq3 c =
    let a = c.args in
    let r = c.row_of-row in
    let l = r.result in
    some_tested 3 (omega arith) (tested _ _ _ r.ensures (three l.low l.high a.b1 a.b2 a.b3
    (is_between l.low l.high a.b1 (omega arith) (omega arith)) (omega arith) l.bytes (omega arith)))

pub returns-then-b3-ne2 : goal.returns-then-b3-ne2
returns-then-b3-ne2 c =
    let a = c.args in
    let r = c.row_of-row in
    let l = r.result in
    none_tested (tested _ _ _ r.ensures (fourth_out l.low l.high a.b1 a.b2 a.b3
    (is_between l.low l.high a.b1 (omega arith) (omega arith)) (omega arith) l.bytes (omega (arith, r.ensures.most)) c.if-b3-ne2.true))

pub returns : goal.returns
returns c =
    let a = c.args in
    let r = c.row_of-row in
    let l = r.result in
    some_tested 4 (omega arith) (tested _ _ _ r.ensures (all_four l.low l.high a.b1 a.b2 a.b3
    (is_between l.low l.high a.b1 (omega arith) (omega arith)) (omega arith) l.bytes (omega (arith, r.ensures.most)) (omega arith)))
