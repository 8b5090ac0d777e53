use borrow.Author.Rules.{rules}
use native.Mathlib.Omega.{arith}
use mathlib.Core.Path.{refl, ap, ◌∙◌}
use mathlib.Core.List.{List}
use Prim.Native.Nat.{ℕ, ◌+◌, ◌-◌}
use lib.ListN.{length}
use Rattle.theory_lists.specs.Part.{part}
use Rattle.theory_lists.specs.Written.{written}
use Rattle.theory_lists.proofs.Part.{part_whole}
use Rattle.theory_lists.proofs.Moved.{copied_none, copied_up}
use Rattle.slices_copy.proofs.copy_by.Goals as goal

pub loop-i-init : goal.loop-i-init
loop-i-init c =
    let a = c.args in
    (omega arith, refl, copied_none a.d.now a.s.now 0 a.at)

pub loop-i-preserved : goal.loop-i-preserved
loop-i-preserved c =
    let a = c.args in
    let l = c.loop-i in (
      omega arith,
      search rules,
      c.copy_block.ensures
          ∙ ap (λ (r : List ℕ). written r (a.at + l.i) (part l.i (l.i + a.size) a.s.now)) l.invariant.2
          ∙ copied_up a.d.now a.s.now 0 l.i l.i (l.i + a.size) a.at (omega arith) (omega arith) (omega arith) (omega arith) (omega arith)
          (a.at + l.i) (omega arith),
    )

pub returns : goal.returns
returns c =
    let a = c.args in
    let l = c.loop-i in
    let n = length a.s.now in
    let last = n - a.size in
    c.copy_block-2.ensures
    ∙ ap (λ (r : List ℕ). written r (a.at + last) (part last n a.s.now)) l.invariant.2
    ∙ copied_up a.d.now a.s.now 0 last l.i n a.at (omega arith) (omega arith) (omega arith) (omega arith) (omega arith) (a.at + last) (omega arith)
    ∙ ap (written a.d.now a.at) (part_whole a.s.now)
