-- What reading a number from digits answers.
use Rattle.std.specs.Prelude.{List, reverse, ℕ, ℤ, eqb, pos, length, Option, Some}
use Rattle.theory_answers.specs.Answer.{only_if}
use Rattle.theory_digits.specs.Digits.{value}

-- the number that digits stand for, lowest first; refused where there are not just `count`
unfoldable pub number : ℕ → ℕ → List ℕ → Option ℤ
number b count ds = only_if (eqb (length ds) count) (Some (pos (value b ds)))

-- the same, highest first
unfoldable pub number_high : ℕ → ℕ → List ℕ → Option ℤ
number_high b count ds = number b count (reverse ds)
