use mathlib.Core.Path.{◌≡◌, sym, ◌∙◌}
use Prim.Native.Nat.{◌-◌, ◌^◌}
use native.Mathlib.Omega.{arith}
use Rattle.theory_digits.proofs.Ends.{trailing_ones}
use Rattle.zeros.proofs.trailing_ones.Goals as goal

pub returns : goal.returns
returns g c =
    let room = c.room.ensures in
    let rest : g.T.Unsigned.whole c.room.result ≡ 2 ^ g.T.Unsigned.bits - 1 - g.T.Unsigned.whole c.args.x = omega arith in
    c.trailing_zeros.ensures ∙ rw rest (sym (trailing_ones g.T.Unsigned.bits (omega arith)))
