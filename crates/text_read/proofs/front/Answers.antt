use mathlib.Core.Path.{sym}
use Rattle.theory_text.proofs.Ascii.{first_ascii_at}
use Rattle.theory_text.proofs.Ends.{begins_none}
use Rattle.theory_text.proofs.ReadIs.{front_some}
use native.Mathlib.Omega.{arith}
use Rattle.text_read.proofs.front.Goals as goal

pub returns-then-s-lt128 : goal.returns-then-s-lt128
returns-then-s-lt128 c =
    let s = c.args.s.now in
    front_some s 1 _ (omega arith) (sym (first_ascii_at s 0 (omega arith) (omega arith))) c.from.ensures

pub returns-in_err-length : goal.returns-in_err-length
returns-in_err-length c = rw c.from_residual.ensures (begins_none c.args.s.now (omega (arith, c.in_err-length.ensures)))

pub returns : goal.returns
returns c = let r = c.in_ok-length.ensures in front_some c.args.s.now _ _ (omega (arith, r)) r.1 c.value_at.ensures
