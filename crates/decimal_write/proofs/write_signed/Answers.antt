use mathlib.Core.Path.{◌≡◌, refl, ap, ◌∙◌}
use lib.IntN.{ℤ, pos}
use lib.Signed.{lt_z}
use Rattle.theory_decimal.proofs.Showing.{shown_by_sign}
use Rattle.decimal_write.proofs.write_signed.Goals as goal

pub returns : goal.returns
returns g c =
    let s = g.met.T.Signed in
    let zero = ap g.T.Signed.whole c.ZERO.ensures ∙ s.zero_law in
    let negative : c.lt.result ≡ lt_z (g.T.Signed.whole c.args.x) (pos 0) =
    c.lt.ensures ∙ s.lt_law c.args.x c.ZERO.result ∙ ap (λ (z : ℤ). lt_z (g.T.Signed.whole c.args.x) z) zero in
    shown_by_sign _ _ _ _ refl (c.to_u64.ensures ∙ c.magnitude.ensures) (rw negative at c.write_with_sign.ensures)
