use mathlib.Core.Path.{ap, ◌∙◌}
use Rattle.theory_whole.specs.Order.{eq_z}
use Rattle.theory_whole.proofs.Signed.{product_by_zero, product_divides, product_divides_not, product_has_no_quotient}
use Rattle.signed_sums.proofs.checked_mul.Goals.{else-divides-via-then-divides+else-eq-2, else-divides-via-else-divides}
use Rattle.signed_sums.proofs.checked_mul.Goals as goal

pub returns-then-eq : goal.returns-then-eq
returns-then-eq g c =
    let zero = ap g.T.Signed.whole c.ZERO.ensures ∙ g.met.T.Signed.zero_law in
    product_by_zero g.T.Unsigned.Unsigned.bits (g.T.Signed.whole c.args.a) (g.T.Signed.whole c.args.b)
    (c.if-eq.ensures ∙ g.met.T.Signed.eq_law _ _ ∙ ap (eq_z (g.T.Signed.whole c.args.a)) zero)
    (ap g.T.Signed.whole c.ZERO-then-eq.ensures ∙ g.met.T.Signed.zero_law)

pub returns-then-eq-2 : goal.returns-then-eq-2
returns-then-eq-2 g c =
    let zero = ap g.T.Signed.whole c.ZERO.ensures ∙ g.met.T.Signed.zero_law in
    let some = c.if-eq.ensures ∙ g.met.T.Signed.eq_law _ _ ∙ ap (eq_z (g.T.Signed.whole c.args.a)) zero in
    product_divides g.T.Unsigned.Unsigned.bits (g.T.Signed.whole c.args.a) (g.T.Signed.whole c.args.b) c.known.ensures c.known-2.ensures c.wrapping_mul-product.ensures some
    (g.T.Signed.whole c.div.result) (g.met.T.Signed.div_law _ _ _ c.div.ensures) (c.if-eq-2.ensures ∙ g.met.T.Signed.eq_law _ _)

pub returns-else-divides : goal.returns-else-divides
returns-else-divides g c =
    let zero = ap g.T.Signed.whole c.ZERO.ensures ∙ g.met.T.Signed.zero_law in
    let some = c.if-eq.ensures ∙ g.met.T.Signed.eq_law _ _ ∙ ap (eq_z (g.T.Signed.whole c.args.a)) zero in
    elim c.else-divides.branch [
      | else-divides-via-then-divides+else-eq-2 v ↦
          product_divides_not g.T.Unsigned.Unsigned.bits (g.T.Signed.whole c.args.a) (g.T.Signed.whole c.args.b) c.known.ensures c.known-2.ensures c.wrapping_mul-product.ensures some
          (g.T.Signed.whole v.div.result) (g.met.T.Signed.div_law _ _ _ v.div.ensures) (v.if-eq-2.ensures ∙ g.met.T.Signed.eq_law _ _)
      | else-divides-via-else-divides v ↦
          product_has_no_quotient g.T.Unsigned.Unsigned.bits (g.T.Signed.whole c.args.a) (g.T.Signed.whole c.args.b) c.known.ensures c.known-2.ensures c.wrapping_mul-product.ensures some
          c.divides.ensures v.if-divides.false
    ]
