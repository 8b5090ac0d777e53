use borrow.Author.Rules.{rules}
use native.Mathlib.Omega.{arith}
use mathlib.Core.Path.{ap₂, ap, ◌∙◌}
use mathlib.Core.List.{List}
use Prim.Native.Nat.{ℕ, ◌+◌, ◌-◌}
use lib.ListN.{take, length-reverse}
use Rattle.theory_lists.specs.Part.{part}
use Rattle.theory_lists.specs.Written.{written}
use Rattle.theory_answers.proofs.Says.{ok_where}
use Rattle.theory_lists.proofs.Lent.{held_part, length_held}
use Rattle.slices_reverse.proofs.exchange.Goals as goal

pub slice_bounds-put-end : goal.slice_bounds-put-end
slice_bounds-put-end c =
    let a = c.args in
    length_held _ a.d.now (a.to - a.size) a.to a.size (search rules) (omega arith) (length-reverse (part (a.to - a.size) a.to a.d.now)) c.turned-back.ensures.1

pub slice_bounds-put-end-2 : goal.slice_bounds-put-end-2
slice_bounds-put-end-2 c =
    let a = c.args in
    length_held _ a.d.now a.from (a.from + a.size) a.size (search rules) (omega arith)
    (length-reverse (part a.from (a.from + a.size) a.d.now))
    c.turned-front.ensures.1

pub returns : goal.returns
returns c =
    let a = c.args in
    let e = length-reverse (part (a.to - a.size) a.to a.d.now) in
    let f = length-reverse (part a.from (a.from + a.size) a.d.now) in
    let h = held_part _ a.d.now (a.to - a.size) a.to a.size (search rules) (omega arith) e
    c.turned-back.ensures.1 in
    let k = held_part _ a.d.now a.from (a.from + a.size) a.size (search rules) (omega arith) f
    c.turned-front.ensures.1 in
    let l = length_held _ a.d.now (a.to - a.size) a.to a.size (search rules) (omega arith) e
    c.turned-back.ensures.1 in
    let m = length_held _ a.d.now a.from (a.from + a.size) a.size (search rules) (omega arith) f
    c.turned-front.ensures.1 in
    (ok_where c.put-2.ensures (search rules, omega arith)).1
    ∙ ap (λ (r : List ℕ). written r (a.to - a.size)
    (take a.size c.turned-front.result))
    (ok_where c.put.ensures (search rules, omega arith)).1
    ∙ ap₂ (λ (x y : List ℕ). written (written a.d.now a.from x) (a.to - a.size) y) h k
