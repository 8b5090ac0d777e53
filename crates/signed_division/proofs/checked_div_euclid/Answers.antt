use mathlib.Core.Path.{ap, sym, ◌∙◌}
use lib.IntN.{◌+ℤ◌, ◌-ℤ◌}
use lib.Signed.{lt_z, le_z}
use Rattle.theory_whole.proofs.Signed.{euclidean_refused, divisible, quotient_same, one_more_fits, one_more_answers, one_less_fits, one_less_answers}
use Rattle.signed_division.proofs.checked_div_euclid.Goals as goal

pub returns-then-not-divides : goal.returns-then-not-divides
returns-then-not-divides g c = euclidean_refused g.T.Unsigned.Unsigned.bits (g.T.Signed.whole c.args.a) (g.T.Signed.whole c.args.b) c.divides.ensures g.met.T.Unsigned.Unsigned.some_bits_law c.known.ensures c.known-2.ensures c.if-not-divides.true _

pub returns-then-le : goal.returns-then-le
returns-then-le g c =
    let zero = ap g.T.Signed.whole c.ZERO.ensures ∙ g.met.T.Signed.zero_law in
    quotient_same g.T.Unsigned.Unsigned.bits (divisible g.T.Unsigned.Unsigned.bits (g.T.Signed.whole c.args.a) (g.T.Signed.whole c.args.b) c.divides.ensures c.if-not-divides.false) g.met.T.Unsigned.Unsigned.some_bits_law c.known.ensures c.known-2.ensures
    (g.met.T.Signed.div_law _ _ _ c.div-quotient.ensures) (g.met.T.Signed.rem_law _ _ _ c.rem.ensures)
    (c.le.ensures ∙ g.met.T.Signed.le_law _ _ ∙ ap (λ z. le_z z (g.T.Signed.whole c.rem.result)) zero)
    c.if-le.true

pub add-requires : goal.add-requires
add-requires g c =
    let zero = ap g.T.Signed.whole c.ZERO.ensures ∙ g.met.T.Signed.zero_law in
    let zero-2 = ap g.T.Signed.whole c.ZERO-else-le.ensures ∙ g.met.T.Signed.zero_law in
    let one = ap g.T.Signed.whole c.ONE.ensures ∙ g.met.T.Signed.one_law in
    g.met.T.Signed.can_add_law _ _
    (rw one
    (one_more_fits g.T.Unsigned.Unsigned.bits (divisible g.T.Unsigned.Unsigned.bits (g.T.Signed.whole c.args.a) (g.T.Signed.whole c.args.b) c.divides.ensures c.if-not-divides.false) g.met.T.Unsigned.Unsigned.some_bits_law c.known.ensures c.known-2.ensures
    (g.met.T.Signed.div_law _ _ _ c.div-quotient.ensures) (g.met.T.Signed.rem_law _ _ _ c.rem.ensures)
    (c.le.ensures ∙ g.met.T.Signed.le_law _ _ ∙ ap (λ z. le_z z (g.T.Signed.whole c.rem.result)) zero) c.if-le.false (sym (c.lt.ensures ∙ g.met.T.Signed.lt_law _ _ ∙ ap (lt_z (g.T.Signed.whole c.args.b)) zero-2) ∙ c.if-lt.true)))

pub returns-then-lt : goal.returns-then-lt
returns-then-lt g c =
    let zero = ap g.T.Signed.whole c.ZERO.ensures ∙ g.met.T.Signed.zero_law in
    let zero-2 = ap g.T.Signed.whole c.ZERO-else-le.ensures ∙ g.met.T.Signed.zero_law in
    let one = ap g.T.Signed.whole c.ONE.ensures ∙ g.met.T.Signed.one_law in
    one_more_answers g.T.Unsigned.Unsigned.bits (divisible g.T.Unsigned.Unsigned.bits (g.T.Signed.whole c.args.a) (g.T.Signed.whole c.args.b) c.divides.ensures c.if-not-divides.false) g.met.T.Unsigned.Unsigned.some_bits_law c.known.ensures c.known-2.ensures
    (g.met.T.Signed.div_law _ _ _ c.div-quotient.ensures) (g.met.T.Signed.rem_law _ _ _ c.rem.ensures)
    (c.le.ensures ∙ g.met.T.Signed.le_law _ _ ∙ ap (λ z. le_z z (g.T.Signed.whole c.rem.result)) zero) c.if-le.false (sym (c.lt.ensures ∙ g.met.T.Signed.lt_law _ _ ∙ ap (lt_z (g.T.Signed.whole c.args.b)) zero-2) ∙ c.if-lt.true)
    (g.met.T.Signed.add_law _ _ _ c.add.ensures ∙ ap (λ z. g.T.Signed.whole c.div-quotient.result +ℤ z) one)

pub sub-requires : goal.sub-requires
sub-requires g c =
    let zero = ap g.T.Signed.whole c.ZERO.ensures ∙ g.met.T.Signed.zero_law in
    let zero-2 = ap g.T.Signed.whole c.ZERO-else-le.ensures ∙ g.met.T.Signed.zero_law in
    let one = ap g.T.Signed.whole c.ONE-else-lt.ensures ∙ g.met.T.Signed.one_law in
    g.met.T.Signed.can_sub_law _ _
    (rw one
    (one_less_fits g.T.Unsigned.Unsigned.bits (divisible g.T.Unsigned.Unsigned.bits (g.T.Signed.whole c.args.a) (g.T.Signed.whole c.args.b) c.divides.ensures c.if-not-divides.false) g.met.T.Unsigned.Unsigned.some_bits_law c.known.ensures c.known-2.ensures
    (g.met.T.Signed.div_law _ _ _ c.div-quotient.ensures) (g.met.T.Signed.rem_law _ _ _ c.rem.ensures)
    (c.le.ensures ∙ g.met.T.Signed.le_law _ _ ∙ ap (λ z. le_z z (g.T.Signed.whole c.rem.result)) zero) c.if-le.false (sym (c.lt.ensures ∙ g.met.T.Signed.lt_law _ _ ∙ ap (lt_z (g.T.Signed.whole c.args.b)) zero-2) ∙ c.if-lt.false)))

pub returns-else-lt : goal.returns-else-lt
returns-else-lt g c =
    let zero = ap g.T.Signed.whole c.ZERO.ensures ∙ g.met.T.Signed.zero_law in
    let zero-2 = ap g.T.Signed.whole c.ZERO-else-le.ensures ∙ g.met.T.Signed.zero_law in
    let one = ap g.T.Signed.whole c.ONE-else-lt.ensures ∙ g.met.T.Signed.one_law in
    one_less_answers g.T.Unsigned.Unsigned.bits (divisible g.T.Unsigned.Unsigned.bits (g.T.Signed.whole c.args.a) (g.T.Signed.whole c.args.b) c.divides.ensures c.if-not-divides.false) g.met.T.Unsigned.Unsigned.some_bits_law c.known.ensures c.known-2.ensures
    (g.met.T.Signed.div_law _ _ _ c.div-quotient.ensures) (g.met.T.Signed.rem_law _ _ _ c.rem.ensures)
    (c.le.ensures ∙ g.met.T.Signed.le_law _ _ ∙ ap (λ z. le_z z (g.T.Signed.whole c.rem.result)) zero) c.if-le.false (sym (c.lt.ensures ∙ g.met.T.Signed.lt_law _ _ ∙ ap (lt_z (g.T.Signed.whole c.args.b)) zero-2) ∙ c.if-lt.false)
    (g.met.T.Signed.sub_law _ _ _ c.sub.ensures ∙ ap (λ z. g.T.Signed.whole c.div-quotient.result -ℤ z) one)
