use mathlib.Core.Path.{sym, ◌∙◌}
use Rattle.theory_whole.proofs.Orders.{order_less, order_greater, order_neither}
use Rattle.signed_order.proofs.compare.Goals as goal

pub returns-then-lt : goal.returns-then-lt
returns-then-lt g c = sym (order_less _ _ (sym (c.if-lt.ensures ∙ g.met.T.Signed.lt_law c.args.a c.args.b)))

pub returns-then-lt-2 : goal.returns-then-lt-2
returns-then-lt-2 g c = sym (order_greater _ _ (sym (c.if-lt-2.ensures ∙ g.met.T.Signed.lt_law c.args.b c.args.a)))

pub returns-else-lt-2 : goal.returns-else-lt-2
returns-else-lt-2 g c =
    sym (order_neither _ _ (sym (c.if-lt.ensures ∙ g.met.T.Signed.lt_law c.args.a c.args.b)) (sym (c.if-lt-2.ensures ∙ g.met.T.Signed.lt_law c.args.b c.args.a)))
