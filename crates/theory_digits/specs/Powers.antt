-- Powers of two, told by halving.
use Rattle.std.specs.Prelude.{Bool, true, ◌&&◌, cond, ℕ, zero, suc, ◌/◌, ◌%◌, eqb}

-- whether halving goes on to 1 without a remainder, in so many steps
unfoldable pub halves : ℕ → ℕ → Bool
halves zero n = eqb n 1
halves (suc steps) n = cond (eqb n 1) true (eqb (n % 2) 0 && halves steps (n / 2))

-- n halvings are enough for n; 0 is never halved to 1
unfoldable pub is_power_of_two : ℕ → Bool
is_power_of_two n = halves n n
