use mathlib.Core.Path.{ap, ◌∙◌}
use lib.IntN.{pos}
use lib.Signed.{le_z}
use Rattle.theory_whole.proofs.Signed.{at_least, negated_told, natural_told, fits_as_told, refused_as_told}
use Rattle.signed_order.proofs.with_sign.Goals as goal

pub returns-then-le : goal.returns-then-le
returns-then-le g c =
    let zero = ap g.T.Signed.whole c.ZERO-then-negative.ensures ∙ g.met.T.Signed.zero_law in
    let test = at_least (g.T.Signed.whole c.of_bits-number.result) (pos 0)
    (c.le.ensures ∙ g.met.T.Signed.le_law _ _ ∙ ap (le_z (g.T.Signed.whole c.of_bits-number.result)) zero) in
    rw c.if-negative.true
    (fits_as_told g.T.Unsigned.Unsigned.bits
    (negated_told g.T.Unsigned.Unsigned.bits (ap g.T.Unsigned.Unsigned.whole c.ZERO.ensures ∙ g.met.T.Unsigned.Unsigned.zero_law) c.wrapping_sub.ensures
    g.met.T.Unsigned.Unsigned.some_bits_law c.known.ensures c.of_bits-number.ensures)
    (test.0 c.if-le.true))

pub returns-else-le : goal.returns-else-le
returns-else-le g c =
    let zero = ap g.T.Signed.whole c.ZERO-then-negative.ensures ∙ g.met.T.Signed.zero_law in
    let test = at_least (g.T.Signed.whole c.of_bits-number.result) (pos 0)
    (c.le.ensures ∙ g.met.T.Signed.le_law _ _ ∙ ap (le_z (g.T.Signed.whole c.of_bits-number.result)) zero) in
    rw c.if-negative.true
    (refused_as_told g.T.Unsigned.Unsigned.bits
    (negated_told g.T.Unsigned.Unsigned.bits (ap g.T.Unsigned.Unsigned.whole c.ZERO.ensures ∙ g.met.T.Unsigned.Unsigned.zero_law) c.wrapping_sub.ensures
    g.met.T.Unsigned.Unsigned.some_bits_law c.known.ensures c.of_bits-number.ensures)
    (test.1 c.if-le.false))

pub returns-then-le-2 : goal.returns-then-le-2
returns-then-le-2 g c =
    let zero = ap g.T.Signed.whole c.ZERO-else-negative.ensures ∙ g.met.T.Signed.zero_law in
    let test = at_least (pos 0) (g.T.Signed.whole c.of_bits-number-else-negative.result)
    (c.le-else-negative.ensures ∙ g.met.T.Signed.le_law _ _ ∙ ap (λ z. le_z z (g.T.Signed.whole c.of_bits-number-else-negative.result)) zero) in
    rw c.if-negative.false (fits_as_told g.T.Unsigned.Unsigned.bits (natural_told g.T.Unsigned.Unsigned.bits _ c.known.ensures c.of_bits-number-else-negative.ensures) (test.0 c.if-le-2.true))

pub returns-else-le-2 : goal.returns-else-le-2
returns-else-le-2 g c =
    let zero = ap g.T.Signed.whole c.ZERO-else-negative.ensures ∙ g.met.T.Signed.zero_law in
    let test = at_least (pos 0) (g.T.Signed.whole c.of_bits-number-else-negative.result)
    (c.le-else-negative.ensures ∙ g.met.T.Signed.le_law _ _ ∙ ap (λ z. le_z z (g.T.Signed.whole c.of_bits-number-else-negative.result)) zero) in
    rw c.if-negative.false (refused_as_told g.T.Unsigned.Unsigned.bits (natural_told g.T.Unsigned.Unsigned.bits _ c.known.ensures c.of_bits-number-else-negative.ensures) (test.1 c.if-le-2.false))
