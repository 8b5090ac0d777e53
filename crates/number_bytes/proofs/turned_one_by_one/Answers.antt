use mathlib.Core.Path.{refl}
use Prim.Native.Nat.{◌+◌}
use native.Mathlib.Omega.{arith}
use Rattle.theory_digits.specs.Digits.{digits, value}
use Rattle.number_bytes.proofs.Steps.{divided_on, turned_on, turned_fits}
use Rattle.number_bytes.proofs.turned_one_by_one.Goals as goal

pub loop-init : goal.loop-init
unfolding digits value
loop-init c = record { joined = refl; rest = omega arith }

pub overflow_mul-turned : goal.overflow_mul-turned
overflow_mul-turned c =
    let on = turned_on c.loop.counter c.args.x in
    let fits = turned_fits (c.loop.counter + 1) c.args.x (omega arith) in
    omega arith

pub overflow_add-turned : goal.overflow_add-turned
overflow_add-turned c =
    let on = turned_on c.loop.counter c.args.x in
    let fits = turned_fits (c.loop.counter + 1) c.args.x (omega arith) in
    omega arith

pub loop-preserved : goal.loop-preserved
loop-preserved c =
    let i = c.loop.invariant in
    record { joined = rw (i.joined, i.rest) (turned_on c.loop.counter c.args.x); rest = rw i.rest (divided_on c.loop.counter c.args.x) }
