use mathlib.Core.Path.{◌≡◌, sym, ap}
use native.Mathlib.Omega.{arith}
use lib.IntN.{pos}
use borrow.Author.Tests.{lt-ltb}
use Rattle.theory_answers.proofs.Says.{it_says, it_denies}
use Rattle.theory_whole.proofs.Orders.{order_less, order_equal, order_greater}
use Rattle.unsigned_order.proofs.compare.Goals as goal

pub returns-then-lt : goal.returns-then-lt
returns-then-lt g c = sym (order_less _ _ (lt-ltb _ _ (it_says (g.met.T.Unsigned.lt_law c.args.a c.args.b) c.if-lt.ensures)))

pub returns-then-lt-2 : goal.returns-then-lt-2
returns-then-lt-2 g c = sym (order_greater _ _ (lt-ltb _ _ (it_says (g.met.T.Unsigned.lt_law c.args.b c.args.a) c.if-lt-2.ensures)))

pub returns-else-lt-2 : goal.returns-else-lt-2
returns-else-lt-2 g c =
    let not_less = it_denies (g.met.T.Unsigned.lt_law c.args.a c.args.b) c.if-lt.ensures in
    let not_more = it_denies (g.met.T.Unsigned.lt_law c.args.b c.args.a) c.if-lt-2.ensures in
    let e : g.T.Unsigned.whole c.args.a ≡ g.T.Unsigned.whole c.args.b = omega arith in
    sym (order_equal _ _ (ap pos e))
