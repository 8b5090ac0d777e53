use Rattle.text_quick.proofs.Rule.{moves_ascii, moves_quarters}
use Rattle.text_quick.proofs.block.Goals as goal

pub returns-then-ascii_block : goal.returns-then-ascii_block
returns-then-ascii_block c =
    let a = c.args in
    let b = c.ascii_block.ensures c.if-ascii_block.true in
    moves_ascii a.s.now a.from 64 a.x c.if-x-eq0.true b.1 b.0

pub returns : goal.returns
returns c =
    moves_quarters _ _ _ _ _ _ _ c.quarter-x1.ensures c.quarter-x2.ensures c.quarter-x3.ensures c.quarter.ensures
