-- The Euclidean pair of divisions, whose remainder is never negative: `ediv`, `emod`. The pair that rounds towards zero is the kit's `quot_z`, `rem_z`.
use Rattle.std.specs.Prelude.{ℕ, suc, ◌-◌, ◌/◌, ◌%◌, ℤ, pos, negsuc, neg_ℤ, nat_abs}

infixl 7 ◌modulo◌
-- the remainder of z by m, from 0 up to m - 1
unfoldable pub ◌modulo◌ : ℤ → ℕ → ℕ
pos a modulo m = a % m
negsuc a modulo m = m - suc (a % m)

unfoldable pub ediv : ℤ → ℤ → ℤ
ediv (pos a) (pos b) = pos (a / b)
ediv (pos a) (negsuc b) = neg_ℤ (pos (a / suc b))
ediv (negsuc a) (pos b) = negsuc (a / b)
ediv (negsuc a) (negsuc b) = pos (suc (a / suc b))

abbrev pub emod : ℤ → ℤ → ℤ
emod a b = pos (a modulo nat_abs b)
