use mathlib.Core.Path.{◌≡◌, ap, ◌∙◌}
use native.Mathlib.Nat.{mod-zero}
use Rattle.theory_answers.proofs.Says.{it_says, pinned_says}
use Rattle.theory_answers.proofs.Tests.{says_equal}
use Rattle.theory_whole.specs.Multiple.{is_multiple}
use Rattle.unsigned_division.proofs.is_multiple_of.Goals as goal

pub returns-then-eq : goal.returns-then-eq
unfolding is_multiple
returns-then-eq g c =
    let u = g.met.T.Unsigned in
    let whole = g.T.Unsigned.whole in
    let zero = ap whole c.ZERO.ensures ∙ u.zero_law in
    let zero_again = ap whole c.ZERO-then-eq.ensures ∙ u.zero_law in
    let nothing = it_says (u.eq_law c.args.b c.ZERO.result) c.if-eq.ensures ∙ zero in
    rw (nothing, mod-zero) (c.eq-then-eq.ensures ∙ pinned_says _ _ (whole c.args.a ≡ 0) (rw zero_again at (u.eq_law c.args.a c.ZERO-then-eq.result)) (says_equal (whole c.args.a) 0))

pub returns-else-eq : goal.returns-else-eq
unfolding is_multiple
returns-else-eq g c =
    let u = g.met.T.Unsigned in
    let whole = g.T.Unsigned.whole in
    let zero = ap whole c.ZERO-else-eq.ensures ∙ u.zero_law in
    rw (← u.rem_law _ _ _ c.rem.ensures) (c.eq-else-eq.ensures ∙ pinned_says _ _ (whole c.rem.result ≡ 0) (rw zero at (u.eq_law c.rem.result c.ZERO-else-eq.result)) (says_equal (whole c.rem.result) 0))
