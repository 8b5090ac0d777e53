use Prim.Native.Nat.{◌/◌, ◌<◌}
use native.Mathlib.Omega.{arith}
use Rattle.number_bytes.proofs.Steps.{turned_parts, turned_below}
use Rattle.number_bytes.proofs.turned_4.Goals as goal

pub overflow_mul-result : goal.overflow_mul-result
overflow_mul-result c =
    let b : c.turned_2.result < 65536 = rw c.turned_2.ensures (turned_below 2 c.args.x) in
    record { fits = omega arith }

pub overflow_add-result : goal.overflow_add-result
overflow_add-result c =
    let b : c.turned_2.result < 65536 = rw c.turned_2.ensures (turned_below 2 c.args.x) in
    let d : c.turned_2-2.result < 65536 = rw c.turned_2-2.ensures (turned_below 2 (c.args.x / 65536)) in
    record { fits = omega arith }

pub returns : goal.returns
returns c = rw (c.turned_2.ensures, c.turned_2-2.ensures) (turned_parts 2 2 c.args.x)
