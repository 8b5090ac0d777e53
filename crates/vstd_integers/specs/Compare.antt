-- What vstd promises of comparing and copying integers, both signs (std_specs/num.rs: eq_spec, cmp_spec, partial_cmp_spec, clone; the other five tests are
-- read off partial_cmp_spec, which is always Some).
use Rattle.std.specs.Prelude.{ℤ, Bool, not, ◌||◌, cond}
use Rattle.std.specs.Int.Signed.{lt_z}
use Rattle.std.specs.declared.cmp.Ordering.{Ordering}
use Rattle.std.specs.declared.cmp.Ordering.TheVariants.{Less, Equal, Greater}
use Rattle.theory_whole.specs.Order.{eq_z, is_less, is_equal, is_greater}

unfoldable pub clone : ℤ → ℤ
clone x = x

unfoldable pub eq : ℤ → ℤ → Bool
eq x y = eq_z x y

unfoldable pub ne : ℤ → ℤ → Bool
ne x y = not (eq_z x y)

unfoldable pub cmp : ℤ → ℤ → Ordering
cmp x y = cond (lt_z x y) Less (cond (lt_z y x) Greater Equal)

unfoldable pub lt : ℤ → ℤ → Bool
lt x y = is_less (cmp x y)

unfoldable pub le : ℤ → ℤ → Bool
le x y = is_less (cmp x y) || is_equal (cmp x y)

unfoldable pub gt : ℤ → ℤ → Bool
gt x y = is_greater (cmp x y)

unfoldable pub ge : ℤ → ℤ → Bool
ge x y = is_greater (cmp x y) || is_equal (cmp x y)
