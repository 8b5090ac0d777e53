-- A number as its lowest digits in any base, and the number that digits stand for. Lists of digits have the lowest first; highest first is the reversal.
use Rattle.std.specs.Prelude.{List, [], ◌∷◌, reverse, ℕ, zero, suc, ◌+◌, ◌*◌, ◌/◌, ◌%◌, ◌^◌, length}

-- the `count` lowest digits of n in the base b
unfoldable pub digits : ℕ → ℕ → ℕ → List ℕ
digits b zero n = []
digits b (suc count) n = n % b ∷ digits b count (n / b)

unfoldable pub value : ℕ → List ℕ → ℕ
value b [] = 0
value b (d ∷ ds) = d + b * value b ds

-- `digits` and `value`, highest first
abbrev pub digits_high : ℕ → ℕ → ℕ → List ℕ
digits_high b count n = reverse (digits b count n)

abbrev pub value_high : ℕ → List ℕ → ℕ
value_high b ds = value b (reverse ds)

-- the number of digits that stand highest first, summed from the highest down: each times the power of its place
unfoldable pub placed : ℕ → List ℕ → ℕ
placed b [] = 0
placed b (d ∷ ds) = d * b ^ length ds + placed b ds
