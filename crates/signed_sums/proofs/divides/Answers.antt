use mathlib.Core.Path.{ap, ◌∙◌}
use mathlib.Core.Bool.{not}
use Rattle.theory_whole.specs.Order.{eq_z}
use Rattle.theory_whole.proofs.Signed.{valued_by_other, valued_by_minus_one}
use Rattle.signed_sums.proofs.divides.Goals as goal

pub returns-then-eq-2 : goal.returns-then-eq-2
returns-then-eq-2 g c =
    let minus_one = ap g.T.Signed.whole c.MINUS_ONE.ensures ∙ g.met.T.Signed.minus_one_law in
    let least = ap g.T.Signed.whole c.MIN.ensures ∙ g.met.T.Signed.min_law in
    valued_by_minus_one g.T.Unsigned.Unsigned.bits (g.T.Signed.whole c.args.a) (g.T.Signed.whole c.args.b) g.met.T.Unsigned.Unsigned.some_bits_law c.known.ensures
    (c.if-eq-2.ensures ∙ g.met.T.Signed.eq_law _ _ ∙ ap (eq_z (g.T.Signed.whole c.args.b)) minus_one)
    (c.ne.ensures ∙ ap not (g.met.T.Signed.eq_law _ _ ∙ ap (eq_z (g.T.Signed.whole c.args.a)) least))

pub returns-else-eq-2 : goal.returns-else-eq-2
returns-else-eq-2 g c =
    let zero = ap g.T.Signed.whole c.ZERO.ensures ∙ g.met.T.Signed.zero_law in
    let minus_one = ap g.T.Signed.whole c.MINUS_ONE.ensures ∙ g.met.T.Signed.minus_one_law in
    valued_by_other g.T.Unsigned.Unsigned.bits (g.T.Signed.whole c.args.a) (g.T.Signed.whole c.args.b) g.met.T.Unsigned.Unsigned.some_bits_law c.known.ensures c.known-2.ensures
    (c.if-eq.ensures ∙ g.met.T.Signed.eq_law _ _ ∙ ap (eq_z (g.T.Signed.whole c.args.b)) zero)
    (c.if-eq-2.ensures ∙ g.met.T.Signed.eq_law _ _ ∙ ap (eq_z (g.T.Signed.whole c.args.b)) minus_one)
