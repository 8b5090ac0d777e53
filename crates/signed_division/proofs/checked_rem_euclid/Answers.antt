use mathlib.Core.Path.{refl, ap, sym, ◌∙◌}
use lib.Signed.{lt_z, le_z, quot_z}
use Rattle.theory_whole.proofs.Signed.{euclidean_refused, divisible, remainder_same, without_divisor_fits, without_divisor_answers, with_divisor_fits, with_divisor_answers}
use Rattle.signed_division.proofs.checked_rem_euclid.Goals as goal

pub returns-then-not-divides : goal.returns-then-not-divides
returns-then-not-divides g c = euclidean_refused g.T.Unsigned.Unsigned.bits (g.T.Signed.whole c.args.a) (g.T.Signed.whole c.args.b) c.divides.ensures g.met.T.Unsigned.Unsigned.some_bits_law c.known.ensures c.known-2.ensures c.if-not-divides.true _

pub returns-then-le : goal.returns-then-le
returns-then-le g c =
    let zero = ap g.T.Signed.whole c.ZERO.ensures ∙ g.met.T.Signed.zero_law in
    remainder_same g.T.Unsigned.Unsigned.bits (divisible g.T.Unsigned.Unsigned.bits (g.T.Signed.whole c.args.a) (g.T.Signed.whole c.args.b) c.divides.ensures c.if-not-divides.false) g.met.T.Unsigned.Unsigned.some_bits_law c.known.ensures c.known-2.ensures
    {q = quot_z (g.T.Signed.whole c.args.a) (g.T.Signed.whole c.args.b)} refl (g.met.T.Signed.rem_law _ _ _ c.rem-remainder.ensures)
    (c.le.ensures ∙ g.met.T.Signed.le_law _ _ ∙ ap (λ z. le_z z (g.T.Signed.whole c.rem-remainder.result)) zero)
    c.if-le.true

pub sub-requires : goal.sub-requires
sub-requires g c =
    let zero = ap g.T.Signed.whole c.ZERO.ensures ∙ g.met.T.Signed.zero_law in
    let zero-2 = ap g.T.Signed.whole c.ZERO-else-le.ensures ∙ g.met.T.Signed.zero_law in
    g.met.T.Signed.can_sub_law _ _
    (without_divisor_fits g.T.Unsigned.Unsigned.bits (divisible g.T.Unsigned.Unsigned.bits (g.T.Signed.whole c.args.a) (g.T.Signed.whole c.args.b) c.divides.ensures c.if-not-divides.false) g.met.T.Unsigned.Unsigned.some_bits_law c.known.ensures c.known-2.ensures
    {q = quot_z (g.T.Signed.whole c.args.a) (g.T.Signed.whole c.args.b)} refl (g.met.T.Signed.rem_law _ _ _ c.rem-remainder.ensures)
    (c.le.ensures ∙ g.met.T.Signed.le_law _ _ ∙ ap (λ z. le_z z (g.T.Signed.whole c.rem-remainder.result)) zero) c.if-le.false (sym (c.lt.ensures ∙ g.met.T.Signed.lt_law _ _ ∙ ap (lt_z (g.T.Signed.whole c.args.b)) zero-2) ∙ c.if-lt.true))

pub returns-then-lt : goal.returns-then-lt
returns-then-lt g c =
    let zero = ap g.T.Signed.whole c.ZERO.ensures ∙ g.met.T.Signed.zero_law in
    let zero-2 = ap g.T.Signed.whole c.ZERO-else-le.ensures ∙ g.met.T.Signed.zero_law in
    without_divisor_answers g.T.Unsigned.Unsigned.bits (divisible g.T.Unsigned.Unsigned.bits (g.T.Signed.whole c.args.a) (g.T.Signed.whole c.args.b) c.divides.ensures c.if-not-divides.false) g.met.T.Unsigned.Unsigned.some_bits_law c.known.ensures c.known-2.ensures
    {q = quot_z (g.T.Signed.whole c.args.a) (g.T.Signed.whole c.args.b)} refl (g.met.T.Signed.rem_law _ _ _ c.rem-remainder.ensures)
    (c.le.ensures ∙ g.met.T.Signed.le_law _ _ ∙ ap (λ z. le_z z (g.T.Signed.whole c.rem-remainder.result)) zero) c.if-le.false (sym (c.lt.ensures ∙ g.met.T.Signed.lt_law _ _ ∙ ap (lt_z (g.T.Signed.whole c.args.b)) zero-2) ∙ c.if-lt.true)
    (g.met.T.Signed.sub_law _ _ _ c.sub.ensures)

pub add-requires : goal.add-requires
add-requires g c =
    let zero = ap g.T.Signed.whole c.ZERO.ensures ∙ g.met.T.Signed.zero_law in
    let zero-2 = ap g.T.Signed.whole c.ZERO-else-le.ensures ∙ g.met.T.Signed.zero_law in
    g.met.T.Signed.can_add_law _ _
    (with_divisor_fits g.T.Unsigned.Unsigned.bits (divisible g.T.Unsigned.Unsigned.bits (g.T.Signed.whole c.args.a) (g.T.Signed.whole c.args.b) c.divides.ensures c.if-not-divides.false) g.met.T.Unsigned.Unsigned.some_bits_law c.known.ensures c.known-2.ensures
    {q = quot_z (g.T.Signed.whole c.args.a) (g.T.Signed.whole c.args.b)} refl (g.met.T.Signed.rem_law _ _ _ c.rem-remainder.ensures)
    (c.le.ensures ∙ g.met.T.Signed.le_law _ _ ∙ ap (λ z. le_z z (g.T.Signed.whole c.rem-remainder.result)) zero) c.if-le.false (sym (c.lt.ensures ∙ g.met.T.Signed.lt_law _ _ ∙ ap (lt_z (g.T.Signed.whole c.args.b)) zero-2) ∙ c.if-lt.false))

pub returns-else-lt : goal.returns-else-lt
returns-else-lt g c =
    let zero = ap g.T.Signed.whole c.ZERO.ensures ∙ g.met.T.Signed.zero_law in
    let zero-2 = ap g.T.Signed.whole c.ZERO-else-le.ensures ∙ g.met.T.Signed.zero_law in
    with_divisor_answers g.T.Unsigned.Unsigned.bits (divisible g.T.Unsigned.Unsigned.bits (g.T.Signed.whole c.args.a) (g.T.Signed.whole c.args.b) c.divides.ensures c.if-not-divides.false) g.met.T.Unsigned.Unsigned.some_bits_law c.known.ensures c.known-2.ensures
    {q = quot_z (g.T.Signed.whole c.args.a) (g.T.Signed.whole c.args.b)} refl (g.met.T.Signed.rem_law _ _ _ c.rem-remainder.ensures)
    (c.le.ensures ∙ g.met.T.Signed.le_law _ _ ∙ ap (λ z. le_z z (g.T.Signed.whole c.rem-remainder.result)) zero) c.if-le.false (sym (c.lt.ensures ∙ g.met.T.Signed.lt_law _ _ ∙ ap (lt_z (g.T.Signed.whole c.args.b)) zero-2) ∙ c.if-lt.false)
    (g.met.T.Signed.add_law _ _ _ c.add.ensures)
