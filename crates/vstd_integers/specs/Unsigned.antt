-- What vstd promises of the unsigned integers of w bits (std_specs/num.rs, wrapping.rs), clause by clause, in vstd's terms and under its names. `/` and
-- `%` on its int are the Euclidean pair, of which there is only one (theory_whole, specs/Pairs.antt); the language's
-- own `<<` and `>>` stand with their values.
use Rattle.std.specs.Prelude.{ℕ, ◌%◌, ◌^◌, ℤ, pos, ◌+ℤ◌, ◌-ℤ◌, ◌*ℤ◌, Bool, ◌||◌, cond, Option, Some, None}
use Rattle.std.specs.Int.Signed.{lt_z}
use Rattle.theory_whole.specs.Kind.{unsigned, least, greatest}
use Rattle.theory_whole.specs.Division.{ediv, emod}
use Rattle.theory_whole.specs.Order.{eq_z}

abbrev MAX : ℕ → ℤ
MAX w = greatest (unsigned w)

abbrev MIN : ℕ → ℤ
MIN w = least (unsigned w)

abbrev range : ℕ → ℤ
range w = pos (2 ^ w)

-- ---- wrapping.rs, u*_specs

unfoldable pub wrapping_add : ℕ → ℤ → ℤ → ℤ
wrapping_add w x y = cond (lt_z (MAX w) (x +ℤ y)) (x +ℤ y -ℤ range w) (x +ℤ y)

unfoldable pub wrapping_add_signed : ℕ → ℤ → ℤ → ℤ
wrapping_add_signed w x y = cond (lt_z (MAX w) (x +ℤ y)) (x +ℤ y -ℤ range w) (cond (lt_z (x +ℤ y) (pos 0)) (x +ℤ y +ℤ range w) (x +ℤ y))

unfoldable pub wrapping_sub : ℕ → ℤ → ℤ → ℤ
wrapping_sub w x y = cond (lt_z (x -ℤ y) (pos 0)) (x -ℤ y +ℤ range w) (x -ℤ y)

unfoldable pub wrapping_mul : ℕ → ℤ → ℤ → ℤ
wrapping_mul w x y = emod (x *ℤ y) (range w)

unfoldable pub wrapping_shl : ℕ → ℤ → ℕ → ℤ
wrapping_shl w x shift = emod (x *ℤ pos (2 ^ (shift % w))) (range w)

unfoldable pub wrapping_shr : ℕ → ℤ → ℕ → ℤ
wrapping_shr w x shift = ediv x (pos (2 ^ (shift % w)))

-- ---- num.rs

unfoldable pub next_multiple_of : ℤ → ℤ → ℤ
next_multiple_of x y = cond (eq_z (emod x y) (pos 0)) x (x +ℤ (y -ℤ emod x y))

unfoldable pub checked_add : ℕ → ℤ → ℤ → Option ℤ
checked_add w x y = cond (lt_z (MAX w) (x +ℤ y)) None (Some (x +ℤ y))

unfoldable pub checked_add_signed : ℕ → ℤ → ℤ → Option ℤ
checked_add_signed w x y = cond (lt_z (MAX w) (x +ℤ y) || lt_z (x +ℤ y) (pos 0)) None (Some (x +ℤ y))

unfoldable pub checked_sub : ℕ → ℤ → ℤ → Option ℤ
checked_sub w x y = cond (lt_z (x -ℤ y) (pos 0)) None (Some (x -ℤ y))

unfoldable pub checked_mul : ℕ → ℤ → ℤ → Option ℤ
checked_mul w x y = cond (lt_z (MAX w) (x *ℤ y)) None (Some (x *ℤ y))

unfoldable pub checked_next_multiple_of : ℕ → ℤ → ℤ → Option ℤ
checked_next_multiple_of w x rhs =
    cond (eq_z rhs (pos 0)) None (cond (lt_z (MAX w) (next_multiple_of x rhs)) None (Some (next_multiple_of x rhs)))

-- also the promise of checked_div_euclid
unfoldable pub checked_div : ℕ → ℤ → ℤ → Option ℤ
checked_div w lhs rhs = cond (eq_z rhs (pos 0)) None (Some (ediv lhs rhs))

-- also the promise of checked_rem_euclid
unfoldable pub checked_rem : ℕ → ℤ → ℤ → Option ℤ
checked_rem w lhs rhs = cond (eq_z rhs (pos 0)) None (Some (emod lhs rhs))

unfoldable pub saturating_add : ℕ → ℤ → ℤ → ℤ
saturating_add w x y = cond (lt_z (MAX w) (x +ℤ y)) (MAX w) (x +ℤ y)

unfoldable pub saturating_sub : ℕ → ℤ → ℤ → ℤ
saturating_sub w x y = cond (lt_z (x -ℤ y) (MIN w)) (MIN w) (x -ℤ y)

unfoldable pub saturating_mul : ℕ → ℤ → ℤ → ℤ
saturating_mul w x y = cond (lt_z (MAX w) (x *ℤ y)) (MAX w) (x *ℤ y)

unfoldable pub is_multiple_of : ℤ → ℤ → Bool
is_multiple_of x y = cond (eq_z y (pos 0)) (eq_z x (pos 0)) (eq_z (emod x y) (pos 0))
