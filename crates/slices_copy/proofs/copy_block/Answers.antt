use borrow.Author.Rules.{rules}
use native.Mathlib.Omega.{arith}
use mathlib.Core.Path.{sym, ap, ◌∙◌}
use lib.ListN.{length}
use Rattle.theory_lists.specs.Written.{written}
use Rattle.theory_answers.proofs.Says.{ok_where}
use Rattle.slices_copy.proofs.copy_block.Goals as goal

pub slice_bounds-put-end : goal.slice_bounds-put-end
slice_bounds-put-end c = sym (ap length (c.held-bytes.ensures.0 (omega arith)).1)

pub returns : goal.returns
returns c =
    let a = c.args in
    let h = (c.held-bytes.ensures.0 (omega arith)).1 in
    (ok_where c.put.ensures (search rules, omega (arith, ap length h))).1 ∙ ap (written a.d.now a.at) h
