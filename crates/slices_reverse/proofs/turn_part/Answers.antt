use borrow.Author.Rules.{rules}
use native.Mathlib.Omega.{arith}
use mathlib.Core.Path.{refl, sym, ap, ◌∙◌}
use Prim.Native.Nat.{◌+◌, ◌-◌}
use Rattle.theory_lists.proofs.Reverse.{reversed, exchanged, reversed_inside, reversed_few}
use Rattle.slices_reverse.proofs.turn_part.Goals as goal

pub loop-j-init : goal.loop-j-init
loop-j-init c = (omega arith, omega arith, refl, refl)

pub loop-j-preserved : goal.loop-j-preserved
unfolding exchanged
loop-j-preserved c =
    let l = c.loop-j in (
      omega arith,
      omega arith,
      search rules,
      ap (reversed (l.i + 8) (l.j - 8)) c.exchange.ensures
          ∙ reversed_inside l.i l.j 8 l.d (omega arith) (omega arith) ∙ l.invariant.3,
    )

pub loop-j-2-init : goal.loop-j-2-init
loop-j-2-init c = (omega arith, omega arith, refl, refl)

pub loop-j-2-preserved : goal.loop-j-2-preserved
unfolding exchanged
loop-j-2-preserved c =
    let l = c.loop-j-2 in (
      omega arith,
      omega arith,
      search rules,
      ap (reversed (l.i + 1) (l.j - 1)) c.exchange-in-loop-j-2.ensures
          ∙ reversed_inside l.i l.j 1 l.d (omega arith) (omega arith) ∙ l.invariant.3,
    )

pub returns : goal.returns
unfolding reversed
returns c =
    let l = c.loop-j-2 in
    sym (reversed_few l.i l.j l.d (search rules) (omega arith)) ∙ l.invariant.3 ∙ c.loop-j.invariant.3
