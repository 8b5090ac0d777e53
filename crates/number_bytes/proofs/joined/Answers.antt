use mathlib.Core.Path.{refl, ap, ◌∙◌}
use Prim.Native.Nat.{ℕ, ◌+◌, ◌*◌, ◌%◌, ◌^◌}
use native.Mathlib.Omega.{arith}
use lib.ListN.{get_or}
use Rattle.theory_digits.specs.Digits.{value}
use Rattle.number_bytes.proofs.Steps.{one_more, one_more_fits}
use Rattle.number_bytes.proofs.joined.Goals as goal

pub loop-i-init : goal.loop-i-init
unfolding value
loop-i-init c = refl

pub overflow_add-x : goal.overflow_add-x
overflow_add-x c =
    let bytes = λ (k : ℕ). (c.type_inv.s k).fits in
    let so_far = c.loop-i.invariant in
    let more = one_more c.args.s.now c.loop-i.i c.loop-i-test.true c.requires bytes in
    let fits = one_more_fits c.args.s.now c.loop-i.i c.loop-i-test.true c.requires bytes in
    omega arith

pub loop-i-preserved : goal.loop-i-preserved
loop-i-preserved c =
    ap (λ (x : ℕ). x + get_or c.args.s.now c.loop-i.i 0 * 2 ^ (8 * c.loop-i.i) % 2 ^ 64) c.loop-i.invariant
    ∙ one_more c.args.s.now c.loop-i.i c.loop-i-test.true c.requires (λ (k : ℕ). (c.type_inv.s k).fits)
