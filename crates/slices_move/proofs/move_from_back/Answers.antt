use borrow.Author.Rules.{rules}
use native.Mathlib.Omega.{arith}
use mathlib.Core.Path.{refl, ap₂, ◌∙◌}
use mathlib.Core.List.{List}
use Prim.Native.Nat.{ℕ, ◌+◌, ◌-◌}
use Rattle.theory_lists.specs.Written.{written}
use Rattle.theory_answers.proofs.Says.{ok_where}
use Rattle.theory_lists.proofs.Lent.{held_part, length_held}
use Rattle.theory_lists.proofs.Moved.{copied_none, copied_down, moved_down}
use Rattle.slices_move.proofs.move_from_back.Goals as goal

pub loop-i-init : goal.loop-i-init
loop-i-init c =
    let a = c.args in
    (omega arith, omega arith, refl, refl, copied_none a.d.now a.d.now a.to (a.at + (a.to - a.from)))

pub loop-i-preserved : goal.loop-i-preserved
loop-i-preserved c =
    let a = c.args in
    let l = c.loop-i in (
      omega arith,
      omega arith,
      omega arith,
      search rules,
      c.move_block.ensures
          ∙ moved_down a.d.now (l.i - a.size) l.i a.to (l.k - a.size) (omega arith) (omega arith) (omega arith) (omega arith) (omega arith)
          l.d l.k (omega arith) l.invariant.4,
    )

pub slice_bounds-put-end : goal.slice_bounds-put-end
slice_bounds-put-end c =
    let a = c.args in
    length_held _ a.d.now a.from (a.from + a.size) a.size (search rules) (omega arith) refl (c.held-bytes.ensures.0 (omega arith)).1

pub returns : goal.returns
returns c =
    let a = c.args in
    let l = c.loop-i in
    let h = (c.held-bytes.ensures.0 (omega arith)).1 in
    let first = a.from + a.size in
    let n = length_held _ a.d.now a.from first a.size (search rules) (omega arith) refl h in
    (ok_where c.put.ensures (search rules, omega (arith, n))).1
    ∙ ap₂ (λ (r x : List ℕ). written r a.at x) l.invariant.4 (held_part _ a.d.now a.from first a.size (search rules) (omega arith) refl h)
    ∙ copied_down a.d.now a.d.now a.from l.i first a.to a.at (omega arith) (omega arith) (omega arith) (omega arith) (omega arith) l.k l.invariant.2
