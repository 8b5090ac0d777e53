-- Multiples of a natural number. Only 0 is a multiple of 0, as `x % 0` is x.
use Rattle.std.specs.Prelude.{ℕ, ◌+◌, ◌-◌, ◌%◌, eqb, Bool, cond}

unfoldable pub is_multiple : ℕ → ℕ → Bool
is_multiple x y = eqb (x % y) 0

-- the smallest multiple of y that is at least x, for y > 0
unfoldable pub next_multiple : ℕ → ℕ → ℕ
next_multiple x y = cond (is_multiple x y) x (x + (y - x % y))
