use mathlib.Core.Bool.{false}
use Prim.Native.Nat.{◌+◌}
use native.Mathlib.Omega.{arith}
use lib.ListN.{get_or}
use borrow.Author.Rules.{rules}
use borrow.Author.Tests.{eq-eqb, ne_eqb}
use Rattle.theory_lists.specs.Search.{holds_at, is}
use Rattle.theory_lists.proofs.Search.{each_join, each_one, each_less}
use Rattle.words.proofs.places.first_from.Goals as goal

pub returns-then-s-i : goal.returns-then-s-i
returns-then-s-i c =
    let loop = c.loop-i in
    let args = c.args in
    record {
      after = search rules;
      before = search rules;
      holds = λ l. eq-eqb (get_or args.s.now loop.i 0) args.v c.if-s-i.true;
      none = each_less false _ args.from loop.i _ loop.i (omega arith) (omega arith) loop.invariant;
    }

pub loop-i-preserved : goal.loop-i-preserved
loop-i-preserved c =
    let loop = c.loop-i in
    let args = c.args in
    let next = each_one false (holds_at (is args.v) args.s.now) loop.i (ne_eqb (get_or args.s.now loop.i 0) args.v c.if-s-i.false) in
    each_join false _ args.from loop.i (loop.i + 1) loop.invariant next

pub returns : goal.returns
returns c =
    let loop = c.loop-i in
    let args = c.args in
    record {
      after = search rules;
      before = search rules;
      holds = λ l. absurd (omega arith);
      none = λ k h l. loop.invariant k (omega arith) (omega arith);
    }
