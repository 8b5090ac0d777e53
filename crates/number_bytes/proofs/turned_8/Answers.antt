use Prim.Native.Nat.{◌/◌, ◌<◌}
use native.Mathlib.Omega.{arith}
use Rattle.number_bytes.proofs.Steps.{turned_parts, turned_below}
use Rattle.number_bytes.proofs.turned_8.Goals as goal

pub overflow_mul-result : goal.overflow_mul-result
overflow_mul-result c =
    let b : c.turned_4.result < 4294967296 = rw c.turned_4.ensures (turned_below 4 c.args.x) in
    record { fits = omega arith }

pub overflow_add-result : goal.overflow_add-result
overflow_add-result c =
    let b : c.turned_4.result < 4294967296 = rw c.turned_4.ensures (turned_below 4 c.args.x) in
    let d : c.turned_4-2.result < 4294967296 = rw c.turned_4-2.ensures (turned_below 4 (c.args.x / 4294967296)) in
    record { fits = omega arith }

pub returns : goal.returns
returns c = rw (c.turned_4.ensures, c.turned_4-2.ensures) (turned_parts 4 4 c.args.x)
