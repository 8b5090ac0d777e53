use mathlib.Core.Path.{ap, ◌∙◌}
use Rattle.theory_text.specs.Boundary.{started}
use Rattle.text_valid.proofs.Counting.{started_append, started_most}
use native.Mathlib.Omega.{arith}
use Rattle.text_valid.proofs.starts_in.Goals as goal

pub overflow_add-n : goal.overflow_add-n
overflow_add-n c =
    let e = ap started c.in-Some.ensures.steps.1.0 ∙ started_append c.in-Some.block.now c.next.new.self.rest.now in
    record { fits = omega (arith, c.loop-block.invariant.0, e, c.starts_in_block.ensures, started_most c.args.s.now) }

pub loop-block-preserved : goal.loop-block-preserved
loop-block-preserved c =
    let v = c.loop-block.invariant in
    let i = c.in-Some.ensures.steps in
    let e = ap started i.1.0 ∙ started_append c.in-Some.block.now c.next.new.self.rest.now in
    (omega (arith, v.0, e, c.starts_in_block.ensures), i.0 ∙ v.1)

pub returns : goal.returns
returns c = omega (arith, c.loop-block.invariant.0, started_most c.loop-block.block-iterator.rest.now, c.in-None.ensures.steps.1.0)
