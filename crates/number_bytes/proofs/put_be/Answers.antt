use mathlib.Core.Path.{◌≡◌, refl, sym, ◌∙◌}
use mathlib.Core.List.{append-nil}
use Prim.Native.Nat.{◌-◌}
use native.Mathlib.Omega.{arith}
use lib.ListN.{length}
use lib.Seq.{take_all}
use Rattle.theory_digits.specs.Digits.{digits}
use Rattle.number_bytes.proofs.Steps.{divided_on, put_before}
use Rattle.number_bytes.proofs.put_be.Goals as goal

pub loop-i-init : goal.loop-i-init
unfolding digits
loop-i-init c = record { put = sym (append-nil _ ∙ take_all (length c.args.room.now - 0) c.args.room.now (omega arith)); rest = omega arith }

pub loop-i-preserved : goal.loop-i-preserved
loop-i-preserved c =
    let i = c.loop-i.invariant in
    let n : length c.loop-i.room ≡ length c.args.room.now = c.loop-i.auto.room in
    record {
      put = rw (n, i.put, i.rest) (put_before c.args.room.now (length c.args.room.now) c.loop-i.i c.args.x refl c.loop-i-test.true);
      rest = rw i.rest (divided_on c.loop-i.i c.args.x);
    }
