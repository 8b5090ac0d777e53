use mathlib.Core.Path.{sym, ◌∙◌}
use native.Mathlib.Omega.{arith}
use Rattle.theory_lists.proofs.Stored.{writes_nothing}
use Rattle.theory_digits.proofs.Digits.{length_digits}
use Rattle.number_bytes.proofs.Steps.{room_for, put_written}
use Rattle.number_bytes.proofs.write_le_bytes.Goals as goal

pub returns-then-not-fits : goal.returns-then-not-fits
returns-then-not-fits g c = let n = c.if-not-fits.ensures in writes_nothing _ _ _ (length_digits 256 _ _ ∙ sym c.size-count.ensures) (omega arith)

pub returns : goal.returns
returns g c =
    let h = c.if-not-fits.ensures in
    put_written c.args.s.now c.args.at c.size-count.result h _ _ (length_digits 256 _ _ ∙ sym c.size-count.ensures)
    (c.put_le.ensures ∙ rw (room_for c.args.s.now c.args.at c.size-count.result h, c.size-count.ensures, c.to_u64.ensures))
