use borrow.Author.Rules.{rules}
use native.Mathlib.Omega.{arith}
use mathlib.Core.Path.{refl, ap, ◌∙◌}
use Prim.Native.Nat.{◌-◌}
use Rattle.theory_lists.specs.Written.{written}
use Rattle.theory_answers.proofs.Says.{ok_where}
use Rattle.theory_lists.proofs.Lent.{held_part, length_held}
use Rattle.slices_move.proofs.move_block.Goals as goal

pub slice_bounds-put-end : goal.slice_bounds-put-end
slice_bounds-put-end c =
    let a = c.args in
    length_held _ a.d.now a.from a.to (a.to - a.from) c.requires.0 refl refl (c.held-bytes.ensures.0 (omega arith)).1

pub returns : goal.returns
returns c =
    let a = c.args in
    let h = (c.held-bytes.ensures.0 (omega arith)).1 in
    let l = length_held _ a.d.now a.from a.to (a.to - a.from) c.requires.0 refl refl h in
    (ok_where c.put.ensures (search rules, omega arith)).1 ∙ ap (written a.d.now a.at) (held_part _ a.d.now a.from a.to (a.to - a.from) c.requires.0 refl refl h)
