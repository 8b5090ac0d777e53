-- The two pairs of a quotient q and a remainder r of a by b, each told by what it is. Only `ediv`, `emod` are the first, and only `quot_z`, `rem_z` the second.
use Rattle.std.specs.Prelude.{◌≡◌, true, ◌<◌, ℤ, pos, nat_abs, ◌+ℤ◌, ◌*ℤ◌}
use Rattle.std.specs.Int.Signed.{le_z, lt_z}

-- the remainder is never negative
pub record EuclideanPair (a b q r : ℤ) : Type 0 where
  pub whole : a ≡ q *ℤ b +ℤ r
  pub small : nat_abs r < nat_abs b
  pub sign : le_z (pos 0) r ≡ true

-- the remainder has the dividend's sign, or is 0: the quotient rounds towards 0
pub record TruncatedPair (a b q r : ℤ) : Type 0 where
  pub whole : a ≡ q *ℤ b +ℤ r
  pub small : nat_abs r < nat_abs b
  pub sign : le_z (pos 0) a ≡ true → le_z (pos 0) r ≡ true
  pub sign_below : lt_z a (pos 0) ≡ true → le_z r (pos 0) ≡ true
