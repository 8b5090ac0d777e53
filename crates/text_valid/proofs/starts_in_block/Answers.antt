use Rattle.theory_text.proofs.Counts.{started_end}
use Rattle.text_valid.proofs.Counting.{counted_one}
use native.Mathlib.Omega.{arith}
use Rattle.text_valid.proofs.starts_in_block.Goals as goal

pub loop-byte-preserved : goal.loop-byte-preserved
loop-byte-preserved c =
    let v = c.loop-byte in
    omega (arith, counted_one c.args.block.now v.byte-index c.start-n.result (omega arith) c.start-n.ensures.0, v.invariant.1)

pub returns : goal.returns
returns c =
    let v = c.loop-byte in
    omega (arith, v.invariant.1, started_end c.args.block.now v.byte-index (omega arith))
