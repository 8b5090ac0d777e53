use Rattle.theory_answers.proofs.Says.{says_true}
use Rattle.text_valid.proofs.Border.{says_inside, says_end}
use native.Mathlib.Omega.{arith}
use Rattle.text_valid.proofs.is_boundary.Goals as goal

pub returns-in-Some : goal.returns-in-Some
returns-in-Some c =
    let v = says_true c.valid.ensures c.if-not-valid.false in
    let l = c.in-Some.ensures.lookup in
    (v, rw (l.4 (omega arith) 0) (says_inside _ v _ (omega (arith, l.3.0))))

pub returns-in-None : goal.returns-in-None
returns-in-None c =
    let v = says_true c.valid.ensures c.if-not-valid.false in
    let l = c.in-None.ensures.lookup in
    (v, says_end _ v _ l.3)
