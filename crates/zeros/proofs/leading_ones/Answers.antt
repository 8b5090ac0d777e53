use mathlib.Core.Path.{◌≡◌, sym, ◌∙◌}
use Prim.Native.Nat.{◌-◌, ◌^◌}
use native.Mathlib.Omega.{arith}
use Rattle.theory_digits.proofs.Ends.{leading_ones}
use Rattle.zeros.proofs.leading_ones.Goals as goal

pub returns : goal.returns
returns g c =
    let room = c.room.ensures in
    let rest : g.T.Unsigned.whole c.room.result ≡ 2 ^ g.T.Unsigned.bits - 1 - g.T.Unsigned.whole c.args.x = omega arith in
    c.leading_zeros.ensures ∙ rw rest (sym (leading_ones g.T.Unsigned.bits (omega arith)))
