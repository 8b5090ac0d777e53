-- How many digits at an end of a number are the same: what counts its zeros and ones.
use Rattle.std.specs.Prelude.{List, [], ◌∷◌, cond, ℕ, suc, eqb}
use Rattle.theory_digits.specs.Digits.{digits, digits_high}

-- how many elements at the front of a list are d
unfoldable pub run : ℕ → List ℕ → ℕ
run d [] = 0
run d (x ∷ xs) = cond (eqb x d) (suc (run d xs)) 0

-- of the w binary digits of x, how many at the low end are d, and how many at the high end
unfoldable pub trailing : ℕ → ℕ → ℕ → ℕ
trailing d w x = run d (digits 2 w x)

unfoldable pub leading : ℕ → ℕ → ℕ → ℕ
leading d w x = run d (digits_high 2 w x)
