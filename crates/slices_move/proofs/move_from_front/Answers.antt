use borrow.Author.Rules.{rules}
use native.Mathlib.Omega.{arith}
use mathlib.Core.Path.{refl, ap₂, ◌∙◌}
use mathlib.Core.List.{List}
use Prim.Native.Nat.{ℕ, ◌+◌, ◌-◌}
use Rattle.theory_lists.specs.Written.{written}
use Rattle.theory_answers.proofs.Says.{ok_where}
use Rattle.theory_lists.proofs.Lent.{held_part, length_held}
use Rattle.theory_lists.proofs.Moved.{copied_none, copied_up, moved_up}
use Rattle.slices_move.proofs.move_from_front.Goals as goal

pub loop-i-init : goal.loop-i-init
loop-i-init c =
    let a = c.args in
    (omega arith, omega arith, omega arith, refl, copied_none a.d.now a.d.now a.from a.at)

pub loop-i-preserved : goal.loop-i-preserved
loop-i-preserved c =
    let a = c.args in
    let l = c.loop-i in (
      omega arith,
      omega arith,
      omega arith,
      search rules,
      c.move_block.ensures
          ∙ moved_up a.d.now a.from l.i (l.i + a.size) a.at (omega arith) (omega arith) (omega arith) (omega arith) (omega arith) l.d
          l.k l.invariant.2 l.invariant.4,
    )

pub slice_bounds-put-end : goal.slice_bounds-put-end
slice_bounds-put-end c =
    let a = c.args in
    length_held _ a.d.now (a.to - a.size) a.to a.size (search rules) (omega arith) refl (c.held-bytes.ensures.0 (omega arith)).1

pub returns : goal.returns
returns c =
    let a = c.args in
    let l = c.loop-i in
    let h = (c.held-bytes.ensures.0 (omega arith)).1 in
    let last = a.to - a.size in
    let there = a.at + (last - a.from) in
    let n = length_held _ a.d.now last a.to a.size (search rules) (omega arith) refl h in
    (ok_where c.put.ensures (search rules, omega (arith, n))).1
    ∙ ap₂ (λ (r x : List ℕ). written r there x) l.invariant.4 (held_part _ a.d.now last a.to a.size (search rules) (omega arith) refl h)
    ∙ copied_up a.d.now a.d.now a.from last l.i a.to a.at (omega arith) (omega arith) (omega arith) (omega arith) (omega arith) there refl
