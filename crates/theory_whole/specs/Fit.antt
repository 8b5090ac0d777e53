-- The three ways to make a whole number fit a kind of machine integer: wrap it, refuse it, clamp it. One definition each, for both signs and every width.
use Rattle.std.specs.Prelude.{ℤ, pos, ◌+ℤ◌, ◌-ℤ◌, Bool, ◌&&◌, not, cond, Option, Some}
use Rattle.std.specs.Int.Signed.{le_z, lt_z}
use Rattle.theory_answers.specs.Answer.{only_if}
use Rattle.theory_whole.specs.Kind.{Kind, least, greatest}
use Rattle.theory_whole.specs.Division.{◌modulo◌}
use Rattle.theory_whole.specs.Order.{eq_z}

unfoldable pub fits : Kind → ℤ → Bool
fits k z = le_z (least k) z && le_z z (greatest k)

-- the number of kind k that differs from z by a multiple of the size
unfoldable pub wrap : Kind → ℤ → ℤ
wrap k z = pos ((z +ℤ pos k.low) modulo k.size) -ℤ pos k.low

-- the number of kind k that is nearest to z
unfoldable pub clamp : Kind → ℤ → ℤ
clamp k z = cond (lt_z z (least k)) (least k) (cond (lt_z (greatest k) z) (greatest k) z)

unfoldable pub refuse : Kind → ℤ → Option ℤ
refuse k z = only_if (fits k z) (Some z)

-- a division by b with quotient q answers v, its quotient or its remainder: refused for divisor 0, and where the quotient does not fit
unfoldable pub divided : Kind → ℤ → ℤ → ℤ → Option ℤ
divided k b q v = only_if (not (eq_z b (pos 0)) && fits k q) (Some v)
