-- What vstd promises of the signed integers of w bits (std_specs/num.rs, wrapping.rs), clause by clause, in vstd's terms and under its names. `/` and
-- `%` on its int are the Euclidean pair, rust_div and rust_rem the one that rounds towards zero, and there is only one of each (theory_whole,
-- specs/Pairs.antt); the language's own `<<` and `>>` stand with their values.
use Rattle.std.specs.Prelude.{ℕ, ◌%◌, ◌^◌, ℤ, pos, negsuc, ◌+ℤ◌, ◌-ℤ◌, ◌*ℤ◌, ◌&&◌, ◌||◌, cond, Option, Some, None}
use Rattle.std.specs.Int.Signed.{lt_z, quot_z, rem_z}
use Rattle.theory_whole.specs.Kind.{signed, least, greatest}
use Rattle.theory_whole.specs.Division.{ediv, emod}
use Rattle.theory_whole.specs.Order.{eq_z}

abbrev MAX : ℕ → ℤ
MAX w = greatest (signed w)

abbrev MIN : ℕ → ℤ
MIN w = least (signed w)

abbrev range : ℕ → ℤ
range w = pos (2 ^ w)

-- ---- wrapping.rs, i*_specs

unfoldable pub wrapping_add : ℕ → ℤ → ℤ → ℤ
wrapping_add w x y = cond (lt_z (MAX w) (x +ℤ y)) (x +ℤ y -ℤ range w) (cond (lt_z (x +ℤ y) (MIN w)) (x +ℤ y +ℤ range w) (x +ℤ y))

unfoldable pub wrapping_add_unsigned : ℕ → ℤ → ℤ → ℤ
wrapping_add_unsigned w x y = cond (lt_z (MAX w) (x +ℤ y)) (x +ℤ y -ℤ range w) (x +ℤ y)

unfoldable pub wrapping_sub : ℕ → ℤ → ℤ → ℤ
wrapping_sub w x y = cond (lt_z (MAX w) (x -ℤ y)) (x -ℤ y -ℤ range w) (cond (lt_z (x -ℤ y) (MIN w)) (x -ℤ y +ℤ range w) (x -ℤ y))

unfoldable pub signed_crop : ℕ → ℤ → ℤ
signed_crop w x = cond (lt_z (MAX w) (emod x (range w))) (emod x (range w) -ℤ range w) (emod x (range w))

unfoldable pub wrapping_mul : ℕ → ℤ → ℤ → ℤ
wrapping_mul w x y = signed_crop w (x *ℤ y)

unfoldable pub wrapping_shl : ℕ → ℤ → ℕ → ℤ
wrapping_shl w x shift = signed_crop w (x *ℤ pos (2 ^ (shift % w)))

unfoldable pub wrapping_shr : ℕ → ℤ → ℕ → ℤ
wrapping_shr w x shift = ediv x (pos (2 ^ (shift % w)))

-- ---- num.rs

unfoldable pub checked_add : ℕ → ℤ → ℤ → Option ℤ
checked_add w x y = cond (lt_z (MAX w) (x +ℤ y) || lt_z (x +ℤ y) (MIN w)) None (Some (x +ℤ y))

unfoldable pub checked_add_unsigned : ℕ → ℤ → ℤ → Option ℤ
checked_add_unsigned w x y = cond (lt_z (MAX w) (x +ℤ y)) None (Some (x +ℤ y))

unfoldable pub checked_sub : ℕ → ℤ → ℤ → Option ℤ
checked_sub w x y = cond (lt_z (MAX w) (x -ℤ y) || lt_z (x -ℤ y) (MIN w)) None (Some (x -ℤ y))

unfoldable pub checked_sub_unsigned : ℕ → ℤ → ℤ → Option ℤ
checked_sub_unsigned w x y = cond (lt_z (x -ℤ y) (MIN w)) None (Some (x -ℤ y))

unfoldable pub checked_mul : ℕ → ℤ → ℤ → Option ℤ
checked_mul w x y = cond (lt_z (MAX w) (x *ℤ y) || lt_z (x *ℤ y) (MIN w)) None (Some (x *ℤ y))

-- the condition of the four divisions, and what they answer otherwise
unfoldable pub divided_unless : ℕ → ℤ → ℤ → ℤ → Option ℤ
divided_unless w lhs rhs v = cond (eq_z rhs (pos 0) || (eq_z lhs (MIN w) && eq_z rhs (negsuc 0))) None (Some v)

abbrev pub checked_div : ℕ → ℤ → ℤ → Option ℤ
checked_div w lhs rhs = divided_unless w lhs rhs (quot_z lhs rhs)

abbrev pub checked_div_euclid : ℕ → ℤ → ℤ → Option ℤ
checked_div_euclid w lhs rhs = divided_unless w lhs rhs (ediv lhs rhs)

abbrev pub checked_rem : ℕ → ℤ → ℤ → Option ℤ
checked_rem w lhs rhs = divided_unless w lhs rhs (rem_z lhs rhs)

abbrev pub checked_rem_euclid : ℕ → ℤ → ℤ → Option ℤ
checked_rem_euclid w lhs rhs = divided_unless w lhs rhs (emod lhs rhs)
