use mathlib.Core.Path.{refl}
use native.Mathlib.Omega.{arith}
use Rattle.theory_digits.specs.Digits.{digits}
use Rattle.number_bytes.proofs.Steps.{divided_on, put_on}
use Rattle.number_bytes.proofs.put_le.Goals as goal

pub loop-byte-init : goal.loop-byte-init
unfolding digits
loop-byte-init c = record { put = refl; rest = omega arith }

pub loop-byte-preserved : goal.loop-byte-preserved
loop-byte-preserved c =
    let i = c.loop-byte.invariant in
    record {
      put = rw (i.put, i.rest) (put_on c.args.room.now c.loop-byte.byte-index c.args.x (omega arith));
      rest = rw i.rest (divided_on c.loop-byte.byte-index c.args.x);
    }
